-- What acceptance tells: each list of rules that lets pass, as a record with a name for each rule; and each call's, joined of these.
use mathlib.Core.Path.{◌≡◌}
use mathlib.Core.Bool.{Bool, true, false, not}
use mathlib.Core.List.{List}
use Prim.Native.Nat.{ℕ, ◌*◌, ◌≤◌, ◌<◌}
use lib.ListN.{length}
use lib.Dec.{leb}
use borrow.Author.Tests.{not-false, eqb-true, ltb-false, leb-true, leb-false}
use Rattle.numbers.specs.Numbers.{last_user, most_segments, most_quota}
use Rattle.lists.specs.Parts.{sectors}
use Rattle.lists.specs.Lists.{some, ◌and◌, all}
use Rattle.lists.proofs.Tests.{and_left, and_right, or_left, or_right}
use Rattle.volume.specs.Names.{volume_id, descriptor, user_of}
use Rattle.volume.specs.Volume.{in_range}
use Rattle.volume.specs.Directory.{entries, unused, contiguous, code_allowed}
use Rattle.volume.specs.Sat.{lowest_run, free}
use Rattle.files.specs.Rights.{has_right}
use Rattle.files.specs.Changes.{taken, needed, new_pairs}
use Rattle.files.specs.Files.{record_at, extent}
use Rattle.luns.specs.Modes.{mode_of, writes, reads}
use Rattle.luns.specs.Luns.{agree, is_held, placeless, reads_by_right}
use Rattle.luns.specs.declared.Mode.{Mode}
use Rattle.work.specs.Volumes.{format_rules, exists, sized, allocate_rules, place_rules, named_rules, slot_of}
use Rattle.work.specs.Transfers.{odd_length, ended, stored_as, handed_as, unfit, read_rules, wrong_length, beyond, room_rules, store_rules, write_rules}
use Rattle.work.specs.Transfers.{replace_rules, update_rules}
use Rattle.work.proofs.Rules.{Passes, Passes-append}
use Rattle.work.proofs.TextRules.{stored_fit}
use Rattle.desk.specs.Desk.{State, ready, spare, mine, lun_at, file_of, aimed}
use Rattle.desk.specs.Calls.{begin_rules, compact_rules, format, compact, rules, allocate, new_lun, assign, seat_of, seat_rules, assign_rules, close, rewind, delete, remove_rules}
use Rattle.desk.specs.Calls.{delete_rules, open_rules, read}
use Rattle.desk.specs.Calls.{write}
use Rattle.desk.specs.Calls.{update}
use Rattle.promises.proofs.Passing.{Accepted}

-- $6F and $03, with which all calls but format and check begin
pub record BeginTold (s : State) (fine : Bool) : Type 0 where
  pub is_ready : ready s ≡ true
  pub is_fine : fine ≡ true

begin_told : (s : State) (fine : Bool) → Passes (begin_rules s fine) → BeginTold s fine
unfolding begin_rules
begin_told s fine p =
    let (notSound, (badLun, none)) = p in
    record { is_ready = not-false _ notSound; is_fine = not-false _ badLun }

-- Format
pub record FormatTold (s : State) (id : List ℕ) (n : ℕ) : Type 0 where
  pub whole_sectors : length s.image ≡ 256 * sectors s.image
  pub in_range : in_range (sectors s.image) n ≡ true
  pub good_id : volume_id id ≡ true

pub format_told : (id : List ℕ) (n : ℕ) (s : State) → Accepted (format id n) s → FormatTold s id n
unfolding rules format_rules
format_told id n s a =
    let (outOfRange, none) = a.passes in
    let h = not-false _ outOfRange in
    record {
      whole_sectors = eqb-true _ _ (and_left _ _ (and_left _ _ h));
      in_range = and_right _ _ (and_left _ _ h);
      good_id = and_right _ _ h;
    }

-- Compact
pub record CompactTold (s : State) (quota : ℕ) : Type 0 where
  pub is_ready : ready s ≡ true
  pub quota_in : quota ≤ most_quota

pub compact_told : (quota : ℕ) (s : State) → Accepted (compact quota) s → CompactTold s quota
unfolding rules compact_rules
compact_told quota s a =
    let (notSound, (outOfRange, none)) = a.passes in
    record { is_ready = not-false _ notSound; quota_in = ltb-false _ _ outOfRange }

-- Allocate
pub record AllocateTold (s : State) (caller : ℕ) (desc : List ℕ) (k n l rc : ℕ) : Type 0 where
  pub is_ready : ready s ≡ true
  pub caller_in : caller ≤ last_user
  pub described : descriptor desc ≡ true
  pub kind_known : k ≤ 1
  pub sized_ok : sized k n l ≡ true
  pub code_allowed : code_allowed (user_of desc) rc ≡ true
  pub right : has_right caller (user_of desc) ≡ true
  pub new_name : exists s.image desc ≡ false
  pub entry_free : some unused (entries s.image) ≡ true
  pub run_free : lowest_run (taken k n) s.image < sectors s.image

pub allocate_told : (caller : ℕ) (desc : List ℕ) (k n l rc : ℕ) (s : State) → Accepted (allocate caller desc k n l rc) s → AllocateTold s caller desc k n l rc
unfolding rules allocate_rules place_rules
allocate_told caller desc k n l rc s a =
    let (begin, own) = Passes-append (begin_rules s (leb caller last_user)) (allocate_rules s.image caller desc k n l rc) a.passes in
    let B = begin_told s (leb caller last_user) begin in
    let (badDescriptor, (unknownType, (outOfRange, (noRight, (nameTaken, (directoryFull, (noRoom, none))))))) = own in
    record {
      is_ready = B.is_ready;
      caller_in = leb-true _ _ B.is_fine;
      described = not-false _ badDescriptor;
      kind_known = ltb-false _ _ unknownType;
      sized_ok = and_left _ _ (not-false _ outOfRange);
      code_allowed = and_right _ _ (not-false _ outOfRange);
      right = not-false _ noRight;
      new_name = nameTaken;
      entry_free = not-false _ directoryFull;
      run_free = leb-false _ _ noRoom;
    }

-- $64 and $17, with which a file is found
pub record NamedTold (img desc : List ℕ) : Type 0 where
  pub described : descriptor desc ≡ true
  pub found : exists img desc ≡ true

named_told : (img desc : List ℕ) → Passes (named_rules img desc) → NamedTold img desc
unfolding named_rules
named_told img desc p =
    let (badDescriptor, (noFile, none)) = p in
    record { described = not-false _ badDescriptor; found = not-false _ noFile }

-- Assign
pub record AssignTold (s : State) (caller lun : ℕ) (desc : List ℕ) (mode : ℕ) (end : Bool) (offered : ℕ) : Type 0 where
  pub is_ready : ready s ≡ true
  pub is_spare : spare s.desk caller lun ≡ true
  pub mode_known : mode ≤ 7
  pub named_file : NamedTold s.image desc
  pub read_right : reads_by_right s.image (new_lun s.image caller desc mode end offered) ≡ true
  pub right : (writes (mode_of mode) and not (has_right caller (user_of desc))) ≡ false
  pub agreed : all (agree (new_lun s.image caller desc mode end offered)) s.desk.luns ≡ true

pub assign_told : (caller lun : ℕ) (desc : List ℕ) (mode : ℕ) (end : Bool) (offered : ℕ) (s : State) → Accepted (assign caller lun desc mode end offered) s
    → AssignTold s caller lun desc mode end offered
unfolding rules assign_rules seat_rules new_lun seat_of
assign_told caller lun desc mode end offered s a =
    let (begin, (unknownType, own)) = Passes-append (begin_rules s (spare s.desk caller lun)) _ a.passes in
    let B = begin_told s (spare s.desk caller lun) begin in
    let (named, (wrongCode, (noRight, none))) = Passes-append (named_rules s.image desc) _ own in
    record {
      is_ready = B.is_ready;
      is_spare = B.is_fine;
      mode_known = ltb-false _ _ unknownType;
      named_file = named_told s.image desc named;
      read_right = not-false _ wrongCode;
      right = or_left _ _ noRight;
      agreed = not-false _ (or_right _ _ noRight);
    }

-- Close and rewind
pub close_told : (caller lun : ℕ) (s : State) → Accepted (close caller lun) s → BeginTold s (mine s.desk caller lun)
unfolding rules
close_told caller lun s a = begin_told s (mine s.desk caller lun) a.passes

pub rewind_told : (caller lun : ℕ) (s : State) → Accepted (rewind caller lun) s → BeginTold s (mine s.desk caller lun)
unfolding rules
rewind_told caller lun s a = begin_told s (mine s.desk caller lun) a.passes

-- Delete
pub record DeleteTold (s : State) (caller : ℕ) (desc : List ℕ) : Type 0 where
  pub is_ready : ready s ≡ true
  pub caller_in : caller ≤ last_user
  pub named_file : NamedTold s.image desc
  pub right : has_right caller (user_of desc) ≡ true
  pub not_held : is_held s.desk.luns (slot_of s.image desc) ≡ false

pub delete_told : (caller : ℕ) (desc : List ℕ) (s : State) → Accepted (delete caller desc) s → DeleteTold s caller desc
unfolding rules delete_rules remove_rules
delete_told caller desc s a =
    let (begin, own) = Passes-append (begin_rules s (leb caller last_user)) _ a.passes in
    let B = begin_told s (leb caller last_user) begin in
    let (named, (noRight, (inUse, none))) = Passes-append (named_rules s.image desc) _ own in
    record {
      is_ready = B.is_ready;
      caller_in = leb-true _ _ B.is_fine;
      named_file = named_told s.image desc named;
      right = not-false _ noRight;
      not_held = inUse;
    }

-- $6F, $03 and $82, with which all transfers open
pub record OpenTold (able : Mode → Bool) (s : State) (caller lun sel : ℕ) : Type 0 where
  pub is_ready : ready s ≡ true
  pub is_mine : mine s.desk caller lun ≡ true
  pub suits : able (lun_at s.desk lun).mode ≡ true
  pub placed : placeless sel (lun_at s.desk lun).place ≡ false

open_told : (able : Mode → Bool) (s : State) (caller lun sel : ℕ) → Passes (open_rules able s caller lun sel) → OpenTold able s caller lun sel
unfolding open_rules
open_told able s caller lun sel p =
    let (begin, (badRequest, none)) = Passes-append (begin_rules s (mine s.desk caller lun)) _ p in
    let B = begin_told s (mine s.desk caller lun) begin in
    record { is_ready = B.is_ready; is_mine = B.is_fine; suits = not-false _ (or_left _ _ badRequest); placed = or_right _ _ badRequest }

-- a rule for contiguous files only, or for sequential ones only
when : (a b : Bool) → (a and b) ≡ false → a ≡ true → b ≡ false
unfolding ◌and◌
when a b h q = rw q at h

unless : (a b : Bool) → (not a and b) ≡ false → a ≡ false → b ≡ false
unfolding ◌and◌
unless a b h q = rw q at h

-- Read: of the file with entry e, from its unit i on, into n bytes
pub record ReadTold (s : State) (caller lun sel num : ℕ) (fmt : Bool) (n : ℕ) : Type 0 where
  pub opened : OpenTold reads s caller lun sel
  pub long_ok : contiguous (file_of s lun) ≡ true → odd_length n ≡ false
  pub there : aimed s lun sel num < extent s.image (file_of s lun)
  pub holds_it : contiguous (file_of s lun) ≡ false
      → length (handed_as fmt (file_of s lun) (record_at s.image (file_of s lun) (aimed s lun sel num))) ≤ n

pub read_told : (caller lun sel num : ℕ) (fmt : Bool) (buf : List ℕ) (s : State) → Accepted (read caller lun sel num fmt buf) s
    → ReadTold s caller lun sel num fmt (length buf)
unfolding rules read_rules ended
read_told caller lun sel num fmt buf s a =
    let (opening, (badLength, (pastEnd, (tooShort, none)))) = Passes-append (open_rules reads s caller lun sel) _ a.passes in
    record {
      opened = open_told reads s caller lun sel opening;
      long_ok = when _ _ badLength;
      there = leb-false _ _ pastEnd;
      holds_it = λ q. ltb-false _ _ (unless _ _ tooShort q);
    }

-- Write: what is stored, ss
pub record WriteTold (s : State) (caller lun sel num : ℕ) (ss : List ℕ) : Type 0 where
  pub opened : OpenTold writes s caller lun sel
  pub long_ok : wrong_length (file_of s lun) ss ≡ false
  pub inside : beyond s.image (file_of s lun) (aimed s lun sel num) (length ss) ≡ false
  pub is_new : contiguous (file_of s lun) ≡ false → extent s.image (file_of s lun) ≤ aimed s lun sel num
  pub enough : contiguous (file_of s lun) ≡ false → needed s.image (file_of s lun) ss ≤ free s.image
  pub few : contiguous (file_of s lun) ≡ false → length (new_pairs s.image (file_of s lun) ss) ≤ most_segments

module _ (caller lun sel num : ℕ) (fmt : Bool) (bs : List ℕ) (s : State) (a : Accepted (write caller lun sel num fmt bs) s) where
  pub write_fit : unfit fmt (file_of s lun) bs ≡ false
  unfolding rules write_rules
  write_fit = (Passes-append (open_rules writes s caller lun sel) _ a.passes).1.0

  pub write_told : WriteTold s caller lun sel num (stored_as fmt (file_of s lun) bs)
  unfolding rules write_rules store_rules room_rules
  write_told =
      let (opening, (badLength, (pastEnd, (thereAlready, (noRoom, (noSegment, none)))))) = Passes-append (open_rules writes s caller lun sel) _ a.passes in
      record {
        opened = open_told writes s caller lun sel opening;
        long_ok = stored_fit fmt (file_of s lun) bs badLength;
        inside = pastEnd;
        is_new = λ q. ltb-false _ _ (unless _ _ thereAlready q);
        enough = λ q. ltb-false _ _ (unless _ _ noRoom q);
        few = λ q. ltb-false _ _ (unless _ _ noSegment q);
      }

-- Update: by what is stored, ss
pub record UpdateTold (s : State) (caller lun sel num : ℕ) (ss : List ℕ) : Type 0 where
  pub opened : OpenTold writes s caller lun sel
  pub sequential : contiguous (file_of s lun) ≡ false
  pub long_ok : wrong_length (file_of s lun) ss ≡ false
  pub there : aimed s lun sel num < extent s.image (file_of s lun)
  pub same_length : length ss ≡ length (record_at s.image (file_of s lun) (aimed s lun sel num))

module _ (caller lun sel num : ℕ) (fmt : Bool) (bs : List ℕ) (s : State) (a : Accepted (update caller lun sel num fmt bs) s) where
  pub update_fit : unfit fmt (file_of s lun) bs ≡ false
  unfolding rules update_rules
  update_fit = (Passes-append (open_rules writes s caller lun sel) _ a.passes).1.1.0

  pub update_told : UpdateTold s caller lun sel num (stored_as fmt (file_of s lun) bs)
  unfolding rules update_rules replace_rules ended
  update_told =
      let (opening, (badRequest, (badLength, (pastEnd, (otherLength, none))))) = Passes-append (open_rules writes s caller lun sel) _ a.passes in
      record {
        opened = open_told writes s caller lun sel opening;
        sequential = badRequest;
        long_ok = stored_fit fmt (file_of s lun) bs badLength;
        there = leb-false _ _ pastEnd;
        same_length = eqb-true _ _ (not-false _ otherLength);
      }
