-- An entry's fields, read back.
use Rattle.std.specs.Prelude.{if◌then◌else◌}
use mathlib.Core.Path.{◌≡◌, refl, sym, ap, ◌∙◌}
use mathlib.Core.Bool.{Bool, true, false}
use mathlib.Core.List.{List, [], ◌∷◌, ◌++◌}
use Prim.Native.Nat.{ℕ, ◌+◌, ◌*◌, ◌/◌, ◌%◌, ◌≤◌}
use native.Mathlib.Omega.{arith}
use lib.ListN.{length, get_or, length-append, take, drop}
use lib.Seq.{get_or-append-add, get_or-take, get_or-drop, take_at}
use lib.Dec.{eqb, leb}
use borrow.Author.Tests.{eqb-true, le-leb}
use Rattle.numbers.specs.Numbers.{record_limit}
use Rattle.lists.specs.Lists.{◌and◌, all}
use Rattle.lists.specs.Parts.{byte, word, bytes2, part}
use Rattle.lists.proofs.Tests.{and_left, and_right, both_true}
use Rattle.volume.specs.Names.{descriptor, user_of}
use Rattle.volume.specs.Directory.{unused, kind, contiguous, owner, described, read_code, record_length, start, size, record_count, Fields, entry}
use Rattle.volume.specs.Directory.{code_allowed, valid}

pub descriptor-length : (d : List ℕ) → descriptor d ≡ true → length d ≡ 20
unfolding descriptor
descriptor-length d h = eqb-true _ _ (and_left _ _ (and_left _ _ (and_left _ _ (and_left _ _ h))))

-- the user of an entry's descriptor is its owner
pub described-owner : (e : List ℕ) → user_of (described e) ≡ owner e
unfolding described part
described-owner e =
    let a : get_or (take 20 (drop 2 e)) 0 0 ≡ get_or e 2 0 = get_or-take 20 (drop 2 e) 0 0 (omega arith) ∙ get_or-drop 2 e 0 0 in
    let b : get_or (take 20 (drop 2 e)) 1 0 ≡ get_or e 3 0 = get_or-take 20 (drop 2 e) 1 0 (omega arith) ∙ get_or-drop 2 e 1 0 in
    rw (a, b)

module _ (f : Fields) where
  -- the kind needs no descriptor's length
  pub entry-kind : kind (entry f) ≡ f.kind
  unfolding entry
  entry-kind = refl

  pub entry-contiguous : contiguous (entry f) ≡ eqb f.kind 0
  unfolding contiguous entry
  entry-contiguous = refl

  pub entry_used : unused (entry f) ≡ false
  unfolding entry all ◌and◌
  entry_used = refl

  module _ (hd : length f.described ≡ 20) where
    pub entry-length : length (entry f) ≡ 32
    unfolding entry
    entry-length = simp length-append (omega arith)

    -- what stands after the descriptor
    rest : List ℕ
    rest = 0 ∷ f.read_code ∷ (bytes2 f.record_length ++ (bytes2 f.start ++ (bytes2 f.size ++ (0 ∷ 0 ∷ []))))

    at_rest : (i j : ℕ) → j ≡ 20 + i → get_or (f.described ++ rest) j 0 ≡ get_or rest i 0
    at_rest i j e =
        let q : j ≡ length f.described + i = omega arith in
        ap (λ (m : ℕ). get_or (f.described ++ rest) m 0) q ∙ get_or-append-add f.described rest i 0

    pub entry-described : described (entry f) ≡ f.described
    unfolding described part entry
    entry-described = take_at f.described _ 20 hd

    -- a word of it
    at_word : (i j w : ℕ) → j ≡ 20 + i → get_or rest i 0 ≡ w / 256 → get_or rest (i + 1) 0 ≡ w % 256
        → 256 * get_or (f.described ++ rest) j 0 + get_or (f.described ++ rest) (j + 1) 0 ≡ w
    at_word i j w e hi lo = rw (at_rest i j e, at_rest (i + 1) (j + 1) (omega arith), hi, lo) (omega arith)

    pub entry_22 : byte (entry f) 22 ≡ 0
    unfolding entry rest
    entry_22 = at_rest 0 20 refl

    pub entry-read_code : read_code (entry f) ≡ f.read_code
    unfolding entry rest
    entry-read_code = at_rest 1 21 refl

    -- the owner is the descriptor's user
    pub entry-owner : owner (entry f) ≡ user_of f.described
    entry-owner = sym (described-owner (entry f)) ∙ ap user_of entry-described

    pub entry-record_length : record_length (entry f) ≡ f.record_length
    unfolding entry rest
    entry-record_length = at_word 2 22 f.record_length refl refl refl

    pub entry-start : start (entry f) ≡ f.start
    unfolding entry rest
    entry-start = at_word 4 24 f.start refl refl refl

    pub entry-size : size (entry f) ≡ f.size
    unfolding entry rest
    entry-size = at_word 6 26 f.size refl refl refl

    pub entry_30 : word (entry f) 30 ≡ 0
    unfolding entry rest
    entry_30 = at_word 8 28 0 refl refl refl

    -- a file of no sectors has no records
    pub entry_count : f.size ≡ 0 → record_count (entry f) ≡ 0
    entry_count z = let s = entry-size in let t = entry_30 in omega (arith, z)

  pub entry-valid : descriptor f.described ≡ true → f.kind ≤ 1 → code_allowed (user_of f.described) f.read_code ≡ true
      → (if eqb f.kind 0 then leb 1 f.size and eqb f.record_length 0 else eqb f.size 0 and leb f.record_length record_limit) ≡ true → valid (entry f) ≡ true
  unfolding valid entry
  entry-valid hd hk ha z =
      let h : length f.described ≡ 20 = descriptor-length f.described hd in
      rw (entry-described h, entry_22 h, entry-read_code h, entry-owner h, entry_30 h, entry-contiguous, entry-size h, entry-record_length h)
      (both_true _ _ (both_true _ _ (both_true _ _ (both_true _ _ (both_true _ _ refl (le-leb f.kind 1 hk)) hd) refl) ha) (go (eqb f.kind 0) z))
    where
      go : (b : Bool) → (if b then leb 1 f.size and eqb f.record_length 0 else eqb f.size 0 and leb f.record_length record_limit) ≡ true
          → (if b then leb 1 f.size and true and eqb f.record_length 0 else leb f.record_length record_limit) ≡ true
      go true h = both_true _ _ (both_true _ _ (and_left _ _ h) refl) (and_right _ _ h)
      go false h = and_right _ _ h
