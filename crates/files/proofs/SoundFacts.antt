-- What soundness says, drawn once as facts, which record counts are none of: they hold of a volume from before there were counts too. The
-- kinds of entries, and what an unused one passes.
use mathlib.Core.Path.{◌≡◌}
use mathlib.Core.Bool.{true}
use mathlib.Core.List.{List}
use Prim.Native.Nat.{ℕ, ◌+◌, ◌*◌, ◌≤◌, ◌<◌}
use native.Mathlib.Omega.{arith}
use lib.ListN.{length}
use borrow.Author.Tests.{leb-true, eqb-true}
use Rattle.numbers.specs.Numbers.{fewest_sectors, most_dirs, most_sectors}
use Rattle.lists.specs.Lists.{◌and◌, ◌or◌, all, distinct}
use Rattle.lists.specs.Parts.{sectors}
use Rattle.lists.proofs.Tests.{and_left, and_right, both_true}
use Rattle.lists.proofs.Lists.{same-true}
use Rattle.volume.specs.Volume.{sat_at, dir_at, dirs, sat, sound1, in_range}
use Rattle.volume.specs.Directory.{entries, unused, valid, names_differ, sound2}
use Rattle.volume.specs.Sat.{sat_of}
use Rattle.ownership.specs.Blocks.{placed, sound3}
use Rattle.ownership.specs.Owners.{all_owned, sound5}
use Rattle.files.specs.Files.{tail_sound, records_sound, sound4, sound_but_counts, count_is, counts_are, records_in, no_count, sound, sound_before}

pub record Facts (v : List ℕ) : Type 0 where
  pub one : sound1 v ≡ true
  pub each_valid : all (λ e. unused e or valid e) (entries v) ≡ true
  pub names : names_differ (entries v) ≡ true
  pub three : sound3 v ≡ true
  pub four : sound4 v ≡ true
  pub each_placed : all (placed v) (entries v) ≡ true
  pub each_content : all (λ e. tail_sound v e and records_sound v e) (entries v) ≡ true
  pub none_twice : distinct (all_owned v) ≡ true
  pub sat_right : sat v ≡ sat_of (sectors v) (all_owned v)
  pub long : length v ≡ 256 * sectors v
  pub low : fewest_sectors ≤ sectors v
  pub high : sectors v ≤ most_sectors
  pub one_dir : 1 ≤ dirs v
  pub few_dirs : dirs v ≤ most_dirs
  pub sat_in : sat_at v < sectors v
  pub dir_in : dir_at v + dirs v ≤ sectors v

pub Facts-but : (v : List ℕ) → sound_but_counts v ≡ true → Facts v
unfolding sound_but_counts sound1 sound2 sound3 sound4 sound5 in_range sat_at
Facts-but v s =
    let a1234 = and_left _ _ s in
    let a123 = and_left _ _ a1234 in
    let a12 = and_left _ _ a123 in
    let p1 : sound1 v ≡ true = and_left _ _ a12 in
    let p2 : sound2 v ≡ true = and_right _ _ a12 in
    let p5 : sound5 v ≡ true = and_right _ _ s in
    let front = and_left _ _ (and_left _ _ (and_left _ _ (and_left _ _ (and_left _ _ (and_left _ _ p1))))) in
    let r : in_range (sectors v) (dirs v) ≡ true = and_right _ _ front in
    let lo : fewest_sectors ≤ sectors v = leb-true _ _ (and_left _ _ (and_left _ _ (and_left _ _ r))) in
    record {
      one = p1;
      each_valid = and_left _ _ p2;
      names = and_right _ _ p2;
      three = and_right _ _ a123;
      four = and_right _ _ a1234;
      each_placed = and_right _ _ a123;
      each_content = and_right _ _ a1234;
      none_twice = and_left _ _ p5;
      sat_right = same-true _ _ (and_right _ _ p5);
      long = eqb-true _ _ (and_left _ _ front);
      low = lo;
      high = leb-true _ _ (and_right _ _ (and_left _ _ (and_left _ _ r)));
      one_dir = leb-true _ _ (and_right _ _ (and_left _ _ r));
      few_dirs = leb-true _ _ (and_right _ _ r);
      sat_in = omega arith;
      dir_in = leb-true _ _ (and_right _ _ p1);
    }

pub facts : (v : List ℕ) → sound v ≡ true → Facts v
unfolding sound
facts v s = Facts-but v (and_left _ _ s)

pub Facts-before : (v : List ℕ) → sound_before v ≡ true → Facts v
unfolding sound_before
Facts-before v s = Facts-but v (and_left _ _ s)

-- .. and what it says of the counts
abbrev pub CountsTrue : List ℕ → Type 0
CountsTrue v = counts_are (records_in v) v ≡ true

pub counts_true : (v : List ℕ) → sound v ≡ true → CountsTrue v
unfolding sound
counts_true v s = and_right _ _ s

pub counts_before : (v : List ℕ) → sound_before v ≡ true → counts_are no_count v ≡ true
unfolding sound_before
counts_before v s = and_right _ _ s

pub sound_but : (v : List ℕ) → sound1 v ≡ true → sound2 v ≡ true → sound3 v ≡ true → sound4 v ≡ true → sound5 v ≡ true → sound_but_counts v ≡ true
unfolding sound_but_counts
sound_but v a b c d e = both_true _ _ (both_true _ _ (both_true _ _ (both_true _ _ a b) c) d) e

pub sound_is : (v : List ℕ) → sound_but_counts v ≡ true → CountsTrue v → sound v ≡ true
unfolding sound
sound_is v a b = both_true _ _ a b

-- an unused entry passes the other tests, and owns nothing
pub content_unused : (v e : List ℕ) → unused e ≡ true → tail_sound v e and records_sound v e ≡ true
unfolding tail_sound records_sound ◌and◌ ◌or◌
content_unused v e u = rw u

pub count_unused : (f : List ℕ → ℕ) (e : List ℕ) → unused e ≡ true → count_is f e ≡ true
unfolding count_is ◌or◌
count_unused f e u = rw u
