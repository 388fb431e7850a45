-- A new file's writes, one after the other: its run, the table, and its entry after them.
use mathlib.Core.Path.{◌≡◌, ap, ◌∙◌, sym}
use mathlib.Core.List.{List}
use Prim.Native.Nat.{ℕ, ◌*◌}
use native.Mathlib.Omega.{arith}
use lib.ListN.{length}
use Rattle.lists.specs.Parts.{put, sector, put_sector, blanks}
use Rattle.lists.specs.Lists.{range, among}
use Rattle.lists.proofs.Puts.{length-blanks}
use Rattle.lists.proofs.Keeps.{Keeps, Keeps-put}
use Rattle.volume.specs.Directory.{fields, entry, put_entry}
use Rattle.volume.specs.Volume.{sat_at, sat}
use Rattle.volume.specs.Sat.{with_bits, put_sat}
use Rattle.volume.specs.Code.Located.{entry_byte}
use Rattle.volume.specs.declared.locate.Layout.{Layout}
use Rattle.files.specs.Changes.{taken, allocated}
use Rattle.files.specs.Code.Room.{Room}

module _ {img : List ℕ} {p : Layout} {at : ℕ} {d : List ℕ} {k n l s : ℕ} (r : Room img p at d k n l s) where
  -- the table is read as it was before the run was zeroed
  table_kept : sector (sat_at img) (put (256 * s) (blanks (256 * taken k n)) img) ≡ sat img
  unfolding sat
  table_kept =
      let b : length (blanks (256 * taken k n)) ≡ 256 * taken k n = length-blanks (256 * taken k n) in
      let g : Keeps (range s (taken k n)) img (put (256 * s) (blanks (256 * taken k n)) img) =
      Keeps-put s (taken k n) (256 * s) (blanks (256 * taken k n)) img (omega arith) (omega arith) (omega (arith, r.inside, r.located.long)) in
      g.at (sat_at img) (ap (λ (u : ℕ). among u (range s (taken k n))) (sym r.located.is_sat) ∙ r.table_out)

  pub allocated_is : (rc m : ℕ) (x y z : List ℕ) → m ≡ taken k n → x ≡ put (256 * s) (blanks (256 * m)) img → y ≡ put_sector p.sat (with_bits 1 (sector p.sat x) (range s m)) x
      → z ≡ put (entry_byte p at) (entry (fields k d rc l s n)) y → z ≡ allocated at d k n l rc s img
  unfolding allocated put_sat put_entry
  allocated_is rc m x y z em ex ey ez = ez ∙ rw (ey, ex, em, r.located.is_sat, r.located.is_dir, table_kept)
