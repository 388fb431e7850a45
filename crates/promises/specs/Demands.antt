-- What was asked for, sentence by sentence: one record, and each field one statement of this folder. The crate's function `promised`
-- has it for its contract, so that a statement without its proof fails the crate.
use Rattle.promises.specs.Answers.{InTable, RefusalKeeps, RefusedExactly, UnreadyRefused, OneOutcome}
use Rattle.promises.specs.Runs.{RunsAreVisits}
use Rattle.promises.specs.Sectors.{StaysGood, StaysSound, SoundInOrder}
use Rattle.promises.specs.Contents.{AcceptedWrite, AcceptedUpdate, AcceptedRead, OtherFilesKept, ContentsKept, OthersKept}
use Rattle.promises.specs.Contents.{FrameKept, OneStreamEach}
use Rattle.promises.specs.Filing.{AcceptedFormat, AcceptedAllocate, AcceptedDelete}
use Rattle.promises.specs.Seating.{AcceptedAssign, AcceptedClose, AcceptedRewind}
use Rattle.promises.specs.Counts.{FreeCount, MostTaken}
use Rattle.promises.specs.Lasting.{AppendEndsNone, Lasts, WrittenIsRead, UpdatedIsRead, WrittenTextIsRead, UpdatedTextIsRead}
use Rattle.promises.specs.Lasting.{WrittenSectorIsRead, NeverPastEnd}
use Rattle.promises.specs.Texts.{PackedReadsBack, NoTwoStoredAlike, NeverLonger, NoEmptyByte, LongestText, RunByRun, SamplesPacked}
use Rattle.promises.specs.Texts.{OptionIgnored}
use Rattle.promises.specs.DeskBytes.{DeskReadsBack, NoTwoDesksAlike, OnePlainDesk, CallsMakePlain}
use Rattle.promises.specs.Fronts.{FrontInTable, RequestRefusalKeeps, FrontRefusalKeeps, ShortBlock, BlockAnswered, OnlyThePart}
use Rattle.promises.specs.Fronts.{OnlyReadsFill, FrontRefusedExactly, AcceptedThrough, WrittenThrough, WrittenSectorThrough}
use Rattle.promises.specs.Fronts.{UpdatedThrough, RequestsAreVisits, RequestsAreRuns, FrontStaysGood, ReportsTold, OneEnding}
use Rattle.promises.specs.FrontSteps.{FrontSteps}
use Rattle.promises.specs.Private.{ReadByRight, ReadByRightThrough, NeverAByte, OnlyReadsHandOver, OldVolumes}
use Rattle.promises.specs.BroughtUp.{StoredCounts, StoredCountsStay, BringUpExactly, AcceptedBringUp, SoundAlready}
use Rattle.promises.specs.Compacting.{Fewest, OneStep, AcceptedCompact, LittleByLittle, SettledAgain, ReadsAlike}
use Rattle.promises.specs.Conclusions.{NotAllRefused, NotAllDone, NotUnchanged, NotOnlyE, CheckCounts}
use Rattle.promises.specs.Steps.{SmallVolume}
use Rattle.promises.specs.LongSteps.{LongestRecord}
use Rattle.promises.specs.Table.{TableDiffers}

pub record Demands : Type 0 where
  -- Demand 1: "Any image, any request, any length: every call ends with an answer from the status table."
  pub in_table : InTable
  -- "A refusal hands back its number and length 0, and image, desk and buffer keep every byte."
  pub refusal_keeps : RefusalKeeps
  -- Demand 2: "Formatting, allocating, opening, reading, writing, updating and deleting do what the manual says as document 01 narrows
  -- it" (RULES, The calls): what an accepted call of each kind does
  pub accepted_format : AcceptedFormat
  pub accepted_allocate : AcceptedAllocate
  pub accepted_assign : AcceptedAssign
  pub accepted_close : AcceptedClose
  pub accepted_rewind : AcceptedRewind
  pub accepted_delete : AcceptedDelete
  pub accepted_read : AcceptedRead
  pub accepted_write : AcceptedWrite
  pub accepted_update : AcceptedUpdate
  -- .. the free sectors after it, and what it leaves alone
  pub free_count : FreeCount
  pub other_files_kept : OtherFilesKept
  pub frame_kept : FrameKept
  -- "Where each call is given the image that the last one left, what was written under a record number is read under it until an update,
  -- a later write to that contiguous sector, a delete or a format"
  pub lasts_through : Lasts
  pub append_ends_none : AppendEndsNone
  pub written_is_read : WrittenIsRead
  pub written_sector_is_read : WrittenSectorIsRead
  pub updated_is_read : UpdatedIsRead
  -- .. and a text, if it was written as one, as itself or in its packed form
  pub written_text_is_read : WrittenTextIsRead
  pub updated_text_is_read : UpdatedTextIsRead
  pub never_past_end : NeverPastEnd
  pub runs_are_visits : RunsAreVisits
  -- "each refusal comes exactly when its condition holds and no earlier one in its call's order does."
  pub refused_exactly : RefusedExactly
  pub unready_refused : UnreadyRefused
  -- Demand 3: "From a formatted volume and any calls, each given the image and desk that the last one left: two pairs of file and logical
  -- sector never lead to one physical sector, none leads to a system sector or an access block, exactly the sectors nobody owns are marked
  -- free." The same of every sound volume, and from a formatted one on with any desks
  pub stays_good : StaysGood
  pub stays_sound : StaysSound
  pub sound_in_order : SoundInOrder
  -- "Two record lists allowed for one record length never make the same stream."
  pub one_stream_each : OneStreamEach
  -- "A write or update leaves every other file's bytes as they were."
  pub others_kept : OthersKept
  -- Spaces in passenger lists: "a packed text reads back as itself, so no two texts are stored alike"; "Fixed and contiguous files ignore
  -- the option"
  pub packed_reads_back : PackedReadsBack
  pub no_two_stored_alike : NoTwoStoredAlike
  pub never_longer : NeverLonger
  pub no_empty_byte : NoEmptyByte
  pub longest_text : LongestText
  pub run_by_run : RunByRun
  pub samples_packed : SamplesPacked
  pub option_ignored : OptionIgnored
  -- A front for the C booking gateway: "`packed_desk` and its reading back are one to one on the desks that the calls make; any 192 bytes
  -- are either bad or the packed form of exactly one plain desk, and every desk that the calls make from the empty one is plain"
  pub desk_reads_back : DeskReadsBack
  pub no_two_desks_alike : NoTwoDesksAlike
  pub one_plain_desk : OnePlainDesk
  pub calls_make_plain : CallsMakePlain
  -- "The demands hold of calls made through the front": demand 1,
  pub front_in_table : FrontInTable
  pub request_refusal_keeps : RequestRefusalKeeps
  pub front_refusal_keeps : FrontRefusalKeeps
  pub short_block : ShortBlock
  pub block_answered : BlockAnswered
  pub only_the_part : OnlyThePart
  pub only_reads_fill : OnlyReadsFill
  -- demand 2, and "what was written through it is read through it";
  pub front_refused_exactly : FrontRefusedExactly
  pub accepted_through : AcceptedThrough
  pub written_through : WrittenThrough
  pub written_sector_through : WrittenSectorThrough
  pub updated_through : UpdatedThrough
  pub requests_are_visits : RequestsAreVisits
  -- demand 3
  pub requests_are_runs : RequestsAreRuns
  pub front_stays_good : FrontStaysGood
  pub one_ending : OneEnding
  -- the front tried on the small volume, one computed list
  pub front_steps : FrontSteps
  -- Private means private: "over any run from a formatted volume, a caller who is neither owner nor user 0 and never offered the right code
  -- never gets a byte of a file with a code other than 0"; "Old volumes have 0 there" (and are sound once they are brought up)
  pub read_by_right : ReadByRight
  pub read_by_right_through : ReadByRightThrough
  pub never_a_byte : NeverAByte
  pub only_reads_hand_over : OnlyReadsHandOver
  pub old_volumes : OldVolumes
  -- Keep the record count: "A volume is sound only if each stored count equals the count of the stream. Every operation keeps it true"
  pub stored_counts : StoredCounts
  pub stored_counts_stay : StoredCountsStay
  -- "a new call, `bring_up`: accepts exactly the volumes sound by the old rule and writes the counts and nothing else; all others $6F";
  -- what the old program made from a formatted volume is one of them
  pub bring_up_exactly : BringUpExactly
  pub accepted_bring_up : AcceptedBringUp
  pub sound_already : SoundAlready
  -- Close up the volume, a little at a time: "the fewest that give the same order"; "One step takes the highest-numbered data sector of any
  -- sequential file and moves its bytes to the lowest free sector, if that one is lower"
  pub fewest_segments : Fewest
  pub one_step : OneStep
  -- "A call takes a quota .. and answers the sectors moved within its quota, and why it ended"; "The number equals the steps of the
  -- definition. Records, places and desk stay"; what is gained; "a little at a time"; "a further call moves 0"
  pub accepted_compact : AcceptedCompact
  pub little_by_little : LittleByLittle
  pub settled_again : SettledAgain
  -- "In demand 3 compaction may change where a logical sector lies, and nothing that any read returns"
  pub contents_kept : ContentsKept
  pub reads_alike : ReadsAlike
  -- from C, "with count and reason"
  pub reports_told : ReportsTold
  -- Longer records: "One append may then need as many as 17 new sectors", and never more; the longest record tried on a small volume, one
  -- computed list
  pub most_taken : MostTaken
  pub longest_record : LongestRecord
  -- Each public call's statement settles answer, image, desk and buffer in all cases: at most one outcome satisfies it
  pub one_outcome : OneOutcome
  -- A program that refuses everything is shut out, and so is one that answers $00 to everything,
  pub not_all_refused : NotAllRefused
  pub not_all_done : NotAllDone
  -- one that changes no image,
  pub not_unchanged : NotUnchanged
  -- and one that appends properly once and after that only moves E
  pub not_only_e : NotOnlyE
  -- Check's free count is the SAT's
  pub check_counts : CheckCounts
  -- The steps of the worked example, one computed list
  pub small_volume : SmallVolume
  -- Where the rule of modes differs from the manual's Table 1-1
  pub table_differs : TableDiffers
