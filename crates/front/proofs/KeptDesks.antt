-- Desk bytes after a call.
use mathlib.Core.Bool.{Bool, true, false}
use mathlib.Core.List.{List}
use mathlib.Core.Path.{◌≡◌, refl, ap, sym}
use Prim.Native.Nat.{ℕ}
use Rattle.std.proofs.Common.{true≢false}
use Rattle.std.specs.Prelude.{if◌then◌else◌, Result, Ok, Err, is_ok}
use Rattle.work.specs.declared.Refusal.{Refusal}
use Rattle.work.specs.declared.Refusal.TheVariants.{NotSound}
use Rattle.desk.specs.Answers.{Answer}
use Rattle.desk.specs.declared.Desk.{Desk}
use Rattle.desk.specs.Answers.{accepts}
use Rattle.deskbytes.specs.DeskBytes.{packed_luns, desk_form}
use Rattle.front.specs.Front.{packed_desk, unpacked_desk, desk_after}

module _ (a : Answer) (d : Desk) (bs : List ℕ) where
  pub kept_done : is_ok a ≡ true → packed_luns d.luns ≡ desk_after a d bs
  unfolding desk_after packed_desk accepts
  kept_done e = go a e
    where
      go : (a : Answer) → is_ok a ≡ true → packed_luns d.luns ≡ desk_after a d bs
      go (Ok r) e = refl
      go (Err why) e = absurd (true≢false (sym e))

  pub kept_refused : is_ok a ≡ false → bs ≡ desk_after a d bs
  unfolding desk_after packed_desk accepts
  kept_refused e = go a e
    where
      go : (a : Answer) → is_ok a ≡ false → bs ≡ desk_after a d bs
      go (Ok r) e = absurd (true≢false e)
      go (Err why) e = refl

-- what is known of a desk that was taken out of bytes, and where none was
module _ (bs : List ℕ) where
  desk_or : Desk → Result Desk Refusal → Desk
  desk_or d (Ok x) = x
  desk_or d (Err why) = d

  pub unpacked_good : (d : Desk) → (if desk_form bs then Ok (unpacked_desk bs) else Err NotSound) ≡ Ok d → (desk_form bs ≡ true) × (d ≡ unpacked_desk bs)
  unfolding desk_or unpacked_desk
  unpacked_good d = go (desk_form bs)
    where
      go : (b : Bool) → (if b then Ok (unpacked_desk bs) else Err NotSound) ≡ Ok d → (b ≡ true) × (d ≡ unpacked_desk bs)
      go true e = (refl, sym (ap (desk_or d) e))
      go false e = absurd (true≢false (sym (ap is_ok e)))

  pub unpacked_bad : (why : Refusal) → (if desk_form bs then Ok (unpacked_desk bs) else Err NotSound) ≡ Err why → desk_form bs ≡ false
  unpacked_bad why = go (desk_form bs)
    where
      go : (b : Bool) → (if b then Ok (unpacked_desk bs) else Err NotSound) ≡ Err why → b ≡ false
      go true e = absurd (true≢false (ap is_ok e))
      go false e = refl
