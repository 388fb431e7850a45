-- Closing up a volume: what one sector's move does, what a compaction does and leaves, and that no read sees it.
use Rattle.std.specs.Prelude.{if◌then◌else◌, Bool, true, false, List, [], map, ◌≢◌, ◌≡◌, ℕ, ◌+◌, ◌-◌, ◌*◌, ◌≤◌, ◌<◌, eqb, length, set}
use Rattle.numbers.specs.Numbers.{most_quota}
use Rattle.lists.specs.Lists.{among, flat}
use Rattle.lists.specs.Parts.{sector, sectors}
use Rattle.volume.specs.Volume.{sat_at, sat, system}
use Rattle.volume.specs.Directory.{entries, entry_at, files_in, contiguous}
use Rattle.volume.specs.Sat.{is_free, free, lowest_run}
use Rattle.ownership.specs.Blocks.{block, segments, segment, extended_by}
use Rattle.ownership.specs.Owners.{logical}
use Rattle.files.specs.Files.{sound}
use Rattle.compaction.specs.Compaction.{closed_up, overfull, stepped, compacted}
use Rattle.compaction.specs.Steps.{steps_of}
use Rattle.compaction.specs.declared.Ending.{Ending}
use Rattle.compaction.specs.declared.Ending.TheVariants.{Settled, QuotaUsed, SegmentNeeded}
use Rattle.desk.specs.Desk.{State}
use Rattle.desk.specs.Answers.{Outcome, outcome}
use Rattle.desk.specs.Calls.{Call, compact, read, step}
use Rattle.desk.specs.Answers.{Answer}
use Rattle.std.specs.Prelude.{Ok}
use Rattle.desk.specs.declared.Report.TheVariants.{Compacted}
use Rattle.promises.specs.Contents.{SameContents, SameFile}
use Rattle.promises.specs.Runs.{next, trace}
use Rattle.promises.specs.Sectors.{Accepts, File, leads_to, HasSector}

-- "the fewest segments that give the same order": those that join sectors from nothing give them in their order, and no list of segments
-- that does is shorter
pub record Fewest : Type 0 where
  pub same_order : (ss : List ℕ) → flat segment (extended_by [] ss) ≡ ss
  pub none_shorter : (ss : List ℕ) (ps : List (List ℕ)) → flat segment ps ≡ ss → length (extended_by [] ss) ≤ length ps

-- sector a of the sequential file in slot k
pub record DataSector (img : List ℕ) (k a : ℕ) : Type 0 where
  pub file : File img k
  pub sequential : contiguous (entry_at img k) ≡ false
  pub there : HasSector img k a

-- "One step takes the highest-numbered data sector of any sequential file and moves its bytes to the lowest free sector, if that one is
-- lower; the file's segments are rewritten as the fewest that give the same order": number a of slot k goes to sector q
pub record StepMoves (img img' : List ℕ) (k a q : ℕ) : Type 0 where
  pub is_data : DataSector img k a
  pub is_highest : (j b : ℕ) → DataSector img j b → leads_to img j b ≤ leads_to img k a
  pub was_free : is_free (sat img) q ≡ true
  pub is_lowest : (x : ℕ) → x < q → is_free (sat img) x ≡ false
  pub is_lower : q < leads_to img k a
  pub entries_same : entries img' ≡ entries img
  pub moved_there : logical img' (entry_at img k) ≡ set (logical img (entry_at img k)) a q
  pub fewest : (ps : List (List ℕ)) → flat segment ps ≡ logical img' (entry_at img k) → segments (block img' (entry_at img k)) ≤ length ps
  pub contents_same : SameContents img img' (entry_at img k) (entry_at img k)
  pub others_same : (j : ℕ) → File img j → j ≢ k → SameFile img img' j
  pub new_bytes : sector q img' ≡ sector (leads_to img k a) img
  pub old_bytes : sector (leads_to img k a) img' ≡ sector (leads_to img k a) img
  pub marks : (x : ℕ) → x < sectors img
      → is_free (sat img') x ≡ (if eqb x q then false else (if eqb x (leads_to img k a) then true else is_free (sat img) x))

abbrev pub OneStep : Type 0
OneStep =
    (img : List ℕ) → sound img ≡ true → closed_up img ≡ false → overfull img ≡ false
    → (k : ℕ) × (a : ℕ) × (q : ℕ) × StepMoves img (stepped img) k a q

-- "Settled means settled: no free sector lies below a sequential file's data sector"
abbrev pub NoFreeBelow : List ℕ → Type 0
NoFreeBelow img = (k a : ℕ) → DataSector img k a → (x : ℕ) → x < sectors img → is_free (sat img) x ≡ true → leads_to img k a < x

-- Where no free sector lies below a data sector, the free ones are cut into runs by access blocks, contiguous files, the SAT, the directory
-- and the trailer alone: so there is a free run of n, if there are more free sectors than n - 1 for each of these
abbrev pub LongRuns : List ℕ → Type 0
LongRuns img = (n : ℕ) → 1 ≤ n → (n - 1) * (files_in img + 3) < free img → lowest_run n img < sectors img

-- what a compaction does, that moves n sectors within its quota and ends so
pub record Compacts (s : State) (o : Outcome) (quota n : ℕ) (why : Ending) : Type 0 where
  pub answered : o.answer ≡ Ok (Compacted n why)
  -- "The number equals the steps of the definition", "at most the quota"
  pub by_steps : o.image ≡ steps_of n s.image
  pub at_most : n ≤ quota
  -- "Records, places and desk stay": and every contiguous file, and every byte of the system's sectors but the SAT's
  pub is_sound : sound o.image ≡ true
  pub entries_same : entries o.image ≡ entries s.image
  pub contents_same : (k : ℕ) → File s.image k → SameContents s.image o.image (entry_at s.image k) (entry_at s.image k)
  pub runs_same : (k : ℕ) → File s.image k → contiguous (entry_at s.image k) ≡ true → SameFile s.image o.image k
  pub system_same : (x : ℕ) → among x (system s.image) ≡ true → x ≢ sat_at s.image → sector x o.image ≡ sector x s.image
  pub desk_kept : o.desk ≡ s.desk
  pub as_many_free : free o.image ≡ free s.image
  -- "why it ended: settled, quota used, or a 63rd segment needed (that step isn't made). Settled is named before quota, quota before
  -- segments"
  pub if_settled : why ≡ Settled → NoFreeBelow o.image × LongRuns o.image
  pub if_quota : why ≡ QuotaUsed → (n ≡ quota) × (closed_up o.image ≡ false)
  pub if_segment : why ≡ SegmentNeeded → (n < quota) × (closed_up o.image ≡ false) × (overfull o.image ≡ true)

abbrev pub AcceptedCompact : Type 0
AcceptedCompact =
    (s : State) → (quota : ℕ) → Accepts (compact quota) s
    → Compacts s (step (compact quota) s) quota (compacted quota s.image).moved (compacted quota s.image).ending

-- "a little at a time": two calls do what one does that has both quotas
abbrev pub LittleByLittle : Type 0
LittleByLittle = (s : State) (m n : ℕ) → m + n ≤ most_quota → next (compact n) (next (compact m) s) ≡ next (compact (m + n)) s

-- after a settled end "a further call moves 0"
abbrev pub SettledAgain : Type 0
SettledAgain =
    (s : State) (quota n : ℕ) → (step (compact quota) s).answer ≡ Ok (Compacted n Settled) → (more : ℕ) → more ≤ most_quota
    → step (compact more) (next (compact quota) s)
    ≡ outcome (Ok (Compacted 0 Settled)) (next (compact quota) s).image (next (compact quota) s).desk []

-- "nothing that any read returns": a read, by any caller, LUN, selector and buffer, and any run of reads
pub record Reading : Type 0 where
  pub caller : ℕ
  pub lun : ℕ
  pub sel : ℕ
  pub num : ℕ
  pub fmt : Bool
  pub buffer : List ℕ

abbrev pub read_by : Reading → Call
read_by r = read r.caller r.lun r.sel r.num r.fmt r.buffer

-- what its caller sees of a call: the answer, which has status and length, and the buffer
pub record Seen : Type 0 where
  pub answer : Answer
  pub buffer : List ℕ

abbrev pub seen_of : Outcome → Seen
seen_of o = record { answer = o.answer; buffer = o.buffer }

abbrev pub ReadsAlike : Type 0
ReadsAlike =
    (s : State) (quota : ℕ) (rs : List Reading)
    → map seen_of (trace (map read_by rs) (next (compact quota) s)) ≡ map seen_of (trace (map read_by rs) s)
