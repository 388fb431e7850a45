-- One sector moved keeps a volume sound: all owners are those before with one replaced, and the SAT is theirs. As many sectors are free, and
-- bytes stay bytes.
use Rattle.std.specs.Prelude.{if◌then◌else◌}
use mathlib.Core.Path.{◌≡◌, refl, ap, sym, ◌∙◌}
use mathlib.Core.Bool.{Bool, true, false, not, true≢false}
use mathlib.Core.List.{List, [], ◌∷◌, ◌++◌}
use Prim.Native.Nat.{ℕ, suc, ◌+◌, ◌*◌, ◌<◌, ◌≤◌}
use native.Mathlib.Omega.{arith}
use lib.Dec.{eqb, leb, ltb}
use lib.ListN.{length, get_or, set, length-set, length-append}
use borrow.Author.Tests.{lt-ltb, ltb-true, lt-leb, ne_eqb, eqb-true}
use Rattle.numbers.specs.Numbers.{most_segments}
use Rattle.lists.specs.Lists.{◌and◌, ◌or◌, all, flat, among, distinct, range}
use Rattle.lists.specs.Parts.{sector, sectors}
use Rattle.lists.proofs.AreBytes.{Bytes}
use Rattle.lists.proofs.ByteLists.{Bytes-nil, Bytes-sector, Bytes-put_sector}
use Rattle.lists.proofs.Tests.{both_true, not_both}
use Rattle.lists.proofs.Lists.{all-nil, all-cons, all_at}
use Rattle.volume.specs.Volume.{dirs, sat, sat_at}
use Rattle.volume.specs.Directory.{entry_at, unused, contiguous, start}
use Rattle.volume.specs.Sat.{marked, is_free, put_sat, with_bit, with_bits, owns, sat_of, free}
use Rattle.volume.proofs.BitsSet.{sat_numbers, length-with_bits, Bytes-with_bits, marked-with_bits}
use Rattle.volume.proofs.SatChanged.{sat_changed}
use Rattle.volume.proofs.SatAccounts.{sat_marked}
use Rattle.ownership.specs.Blocks.{block, total, stream_length, placed}
use Rattle.ownership.proofs.BlockBytes.{Bytes-extended_by, Bytes-block_of}
use Rattle.ownership.specs.Owners.{logical, owned, all_owned}
use Rattle.files.specs.Files.{tail, tail_sound, records_sound, sound_but_counts, count_is, records_in, sound}
use Rattle.files.proofs.SoundFacts.{Facts, Facts-but, CountsTrue, sound_is}
use Rattle.files.proofs.SoundSat.{length-sat, Bytes-sat, below_table, free_unowned}
use Rattle.files.proofs.Kept.FreeAndOwned.{Changed-free}
use Rattle.files.proofs.OwnSectorsWritten.{slot_valid, slot_names, slot_content, slot_count}
use Rattle.files.proofs.OneFileChanged.{Changed, ahead, behind, owned_was, sectors_kept, change_but, counts_kept}
use Rattle.files.proofs.SequentialFile.{owned_is, placed_is, content_is, fab_inside, logical-inside}
use Rattle.moves.specs.Moves.{sector_of, rerouted, rerouted_pairs, relocated}
use Rattle.lists.proofs.Members.{among_at}
use Rattle.lists.proofs.MembersReplaced.{among-set, distinct-set, set_middle, get_or_middle}
use Rattle.moves.proofs.ReroutedBlock.{rerouted_block, rerouted-inside, sound_rerouted}
use Rattle.moves.proofs.Relocated.{relocated-Changed, relocated-block, relocated-sat, relocated-stored, relocated_long, relocated-stream, relocated-records, relocated-owned}

-- the SAT of some owners, with the bit of one cleared and that of another set, is theirs with the one replaced
sat_replaced : (t : ℕ) (own b : List ℕ) (n q : ℕ) → b ≡ sat_of t own → distinct own ≡ true → n < length own → among q own ≡ false → sat_numbers (q ∷ []) ≡ true
    → sat_numbers (get_or own n 0 ∷ []) ≡ true → get_or own n 0 < t → with_bit 0 (with_bit 1 b q) (get_or own n 0) ≡ sat_of t (set own n q)
unfolding with_bits owns among ◌or◌
sat_replaced t own b n q is d hn out nq nx lt =
    sat_changed 0 t (q ∷ own) (set own n q) (get_or own n 0 ∷ []) (with_bit 1 b q) (omega arith) (sat_marked t [] (q ∷ []) own b nq is) nx
    (λ u h. rw (among-set own n q u d hn) (by u (eqb u (get_or own n 0)) (eqb u q) refl refl))
  where
    by : (u : ℕ) (c a : Bool) → eqb u (get_or own n 0) ≡ c → eqb u q ≡ a
        → (if c or false then eqb 0 1 else leb t u or (a or among u own)) ≡ (leb t u or (if a then true else (if c then false else among u own)))
    by u true true e f =
        absurd (true≢false (sym (among_at own n hn) ∙ ap (λ (y : ℕ). among y own) (sym (eqb-true _ _ e) ∙ eqb-true _ _ f) ∙ out))
    by u true false e f = sym (not_both _ _ (lt-leb t u (omega (arith, eqb-true u (get_or own n 0) e))) refl)
    by u false true e f = refl
    by u false false e f = refl

module _ (v : List ℕ) (F : Facts v) (k : ℕ) (hk : k < 8 * dirs v) (used : unused (entry_at v k) ≡ false) (seq : contiguous (entry_at v k) ≡ false) (i q : ℕ)
    (hi : i < length (logical v (entry_at v k))) (hq : q < sectors v) (fr : is_free (sat v) q ≡ true)
    (few : length (rerouted_pairs v (entry_at v k) i q) ≤ most_segments) where
  abbrev e : List ℕ
  e = entry_at v k

  abbrev x : ℕ
  x = sector_of v e i

  abbrev v' : List ℕ
  v' = relocated e i q v

  abbrev ws : List ℕ
  ws = (start e ∷ q ∷ []) ++ range (sat_at v) 1

  C : Changed v v' k e ws
  C = relocated-Changed v F k hk used seq i q hi hq fr few

  -- the owners around those of slot k
  a : List ℕ
  a = ahead v v' k e ws C

  b : List ℕ
  b = behind v v' k e ws C

  all_was : all_owned v ≡ a ++ (owned v e ++ b)
  unfolding a b
  all_was = owned_was v v' k e ws C

  -- the place of the old sector among all owners
  place : ℕ
  place = length a + suc i

  inside_own : suc i < length (owned v e)
  inside_own = rw (owned_is e used seq v) (omega arith)

  place_in : place < length (all_owned v)
  unfolding place
  place_in = rw all_was (simp length-append (omega (arith, inside_own)))

  at_place : get_or (all_owned v) place 0 ≡ x
  unfolding place sector_of
  at_place = rw all_was (get_or_middle a (owned v e) b (suc i) inside_own ∙ rw (owned_is e used seq v))

  all_now : a ++ (owned v' e ++ b) ≡ set (all_owned v) place q
  unfolding place
  all_now =
      ap (λ (l : List ℕ). a ++ (l ++ b)) (relocated-owned v F k hk used seq i q hi hq fr few) ∙ sym (set_middle a (owned v e) b (suc i) q inside_own)
      ∙ ap (λ (l : List ℕ). set l (length a + suc i) q) (sym all_was)

  new_out : among q (all_owned v) ≡ false
  new_out = free_unowned v F q hq fr

  old_below : x < sectors v
  unfolding sector_of
  old_below = ltb-true _ _ (all_at (λ u. ltb u (sectors v)) (logical v e) i 0 (logical-inside v F k hk used seq) hi)

  one_below : (u : ℕ) → u < sectors v → sat_numbers (u ∷ []) ≡ true
  one_below u h = below_table v F (u ∷ []) (all-cons (λ s. ltb s (sectors v)) u [] (lt-ltb u (sectors v) h) (all-nil _))

  sat_now : sat v' ≡ sat_of (sectors v) (set (all_owned v) place q)
  sat_now =
      relocated-sat v F k hk used seq i q hi hq fr few ∙ ap (with_bit 0 (with_bit 1 (sat v) q)) (sym at_place)
      ∙ sat_replaced (sectors v) (all_owned v) (sat v) place q F.sat_right F.none_twice place_in new_out (one_below q hq)
      (rw at_place (one_below x old_below)) (rw at_place old_below)

  -- the file is as sound as it was
  placed_now : placed v' e ≡ true
  placed_now =
      placed_is e used seq v'
      ∙ rw (sectors_kept v v' k e ws C, relocated-block v F k hk used seq i q hi hq fr few)
      (both_true _ _ (lt-ltb _ _ (fab_inside v F k hk used seq)) (sound_rerouted v F k hk used seq i q hq few))

  tail_now : tail v' e ≡ tail v e
  unfolding tail
  tail_now = rw (relocated_long v F k hk used seq i q hi hq fr few, relocated-stored v F k hk used seq i q hi hq fr few)

  content_now : tail_sound v' e and records_sound v' e ≡ true
  content_now =
      content_is e used seq v' ∙ rw (tail_now, relocated-stream v F k hk used seq i q hi hq fr few) (sym (content_is e used seq v) ∙ slot_content v F k hk)

  pub relocated_but : sound_but_counts (relocated (entry_at v k) i q v) ≡ true
  unfolding a b
  relocated_but =
      change_but v v' k e ws C F (slot_valid v F k hk) (slot_names v F k hk) placed_now content_now
      (ap distinct all_now ∙ distinct-set (all_owned v) place q F.none_twice new_out) (sat_now ∙ ap (sat_of (sectors v)) (sym all_now))

  pub relocated-Facts : Facts (relocated (entry_at v k) i q v)
  relocated-Facts = Facts-but v' relocated_but

  pub relocated-sound : CountsTrue v → sound (relocated (entry_at v k) i q v) ≡ true
  unfolding count_is records_in
  relocated-sound t =
      sound_is v' relocated_but
      (counts_kept v v' k e ws C t (rw (relocated-records v F k hk used seq i q hi hq fr few) (slot_count v F k hk (records_in v) t)))

  -- free sectors: the old one for the new one
  pub relocated_count : free (relocated (entry_at v k) i q v) ≡ free v
  relocated_count =
      omega (
        arith,
        Changed-free v v' k e ws C F relocated-Facts,
        ap length (relocated-owned v F k hk used seq i q hi hq fr few) ∙ length-set (owned v e) (suc i) q,
      )

  Bytes-new : Bytes (with_bits 1 (sat v) (q ∷ []))
  Bytes-new = Bytes-with_bits 1 (sat v) (q ∷ []) (omega arith) (Bytes-sat v F) (length-sat v F) (one_below q hq)

  length_new : length (with_bits 1 (sat v) (q ∷ [])) ≡ 256
  length_new = length-with_bits 1 (sat v) (q ∷ []) ∙ length-sat v F

  old_not_new : eqb x q ≡ false
  old_not_new = ne_eqb x q (λ z. true≢false (sym (among_at (all_owned v) place place_in) ∙ ap (λ (y : ℕ). among y (all_owned v)) (at_place ∙ z) ∙ new_out))

  pub relocated_free : (u : ℕ) → u < sectors v
      → is_free (sat (relocated (entry_at v k) i q v)) u ≡ (if eqb u q then false else (if eqb u (sector_of v (entry_at v k) i) then true else is_free (sat v) u))
  unfolding is_free with_bits among ◌or◌
  relocated_free u h =
      let first : marked (with_bit 1 (sat v) q) u ≡ (if eqb u q or false then eqb 1 1 else marked (sat v) u) =
      marked-with_bits 1 (sat v) (q ∷ []) u (omega arith) (Bytes-sat v F) (length-sat v F) (one_below q hq) in
      ap (λ (s : List ℕ). not (marked s u)) (relocated-sat v F k hk used seq i q hi hq fr few)
      ∙ ap not (marked-with_bits 0 (with_bit 1 (sat v) q) (x ∷ []) u (omega arith) Bytes-new length_new (one_below x old_below))
      ∙ ap (λ (m : Bool). not (if eqb u x or false then eqb 0 1 else m)) first ∙ by (eqb u x) (eqb u q) refl refl
    where
      by : (c d : Bool) → eqb u x ≡ c → eqb u q ≡ d
          → not (if c or false then eqb 0 1 else (if d or false then eqb 1 1 else marked (sat v) u)) ≡ (if d then false else (if c then true else not (marked (sat v) u)))
      by true true f g = absurd (true≢false (sym g ∙ ap (λ (y : ℕ). eqb y q) (eqb-true u x f) ∙ old_not_new))
      by true false f g = refl
      by false true f g = refl
      by false false f g = refl

  -- bytes stay bytes
  pub relocated-Bytes : Bytes v → Bytes (relocated (entry_at v k) i q v)
  unfolding relocated put_sat rerouted_pairs block with_bits all flat
  relocated-Bytes h =
      let f : Bytes (block v e) = Bytes-sector (start e) v h in
      Bytes-put_sector (start e) (rerouted_block v e i q) _
      (Bytes-block_of (rerouted_pairs v e i q) (total (block v e)) (stream_length (block v e)) (omega (arith, few)) (omega (arith, f 2, f 3)) (omega (arith, f 4, f 5, f 6, f 7))
      (Bytes-extended_by (sectors v) F.high [] (rerouted v e i q) (rerouted-inside v F k hk used seq i q hq few) refl Bytes-nil))
      (Bytes-put_sector (sat_at v) (with_bit 0 (with_bit 1 (sat v) q) x) _ (Bytes-with_bits 0 (with_bit 1 (sat v) q) (x ∷ []) (omega arith) Bytes-new length_new (one_below x old_below))
      (Bytes-put_sector q (sector x v) v (Bytes-sector x v h) h))
