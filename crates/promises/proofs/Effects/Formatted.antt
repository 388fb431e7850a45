-- What an accepted format does.
use mathlib.Core.Path.{◌≡◌, refl, ap, sym, ◌∙◌}
use mathlib.Core.Bool.{not}
use mathlib.Core.List.{List}
use Prim.Native.Nat.{ℕ, ◌<◌}
use Rattle.lists.specs.Parts.{sectors}
use Rattle.lists.specs.Lists.{among}
use Rattle.volume.specs.Volume.{sat, system, system_of}
use Rattle.volume.specs.Formatted.{formatted}
use Rattle.volume.specs.Sat.{is_free}
use Rattle.files.proofs.SoundFacts.{facts}
use Rattle.keeping.proofs.FormatSound.{format_sectors, format_system, format_length, format_unused, format_owned, format_id, format_sound}
use Rattle.keeping.proofs.FreeCounts.{format_free}
use Rattle.files.proofs.Kept.FreeAndOwned.{free_is}
use Rattle.desk.specs.Desk.{State}
use Rattle.desk.specs.Calls.{format, done, quietly}
use Rattle.promises.specs.Filing.{Formats, AcceptedFormat}
use Rattle.promises.proofs.Passing.{accepted, carried}
use Rattle.promises.proofs.Told.{FormatTold, format_told}

module _ (id : List ℕ) (n : ℕ) (s : State) (T : FormatTold s id n) where
  abbrev t : ℕ
  t = sectors s.image

  abbrev v' : List ℕ
  v' = formatted id n t

  others_free : (x : ℕ) → x < t → is_free (sat v') x ≡ not (among x (system v'))
  others_free x l =
      free_is v' (facts v' (format_sound id n t T.good_id T.in_range)) x (rw (format_sectors id n t T.good_id T.in_range) l)
      ∙ ap (λ (ss : List ℕ). not (among x ss)) (format_owned id n t T.good_id T.in_range ∙ sym (format_system id n t T.good_id T.in_range))

  formats : Formats s (carried (format id n) s) id n
  unfolding done quietly system_of
  formats = record {
    answered = refl;
    is_formatted = refl;
    as_long = format_length id n t T.good_id T.in_range ∙ sym T.whole_sectors;
    has_id = format_id id n t T.good_id T.in_range;
    no_file = format_unused id n t T.good_id T.in_range;
    its_system = format_system id n t T.good_id T.in_range;
    others_free = others_free;
    free_count = format_free id n t T.good_id T.in_range;
    desk_empty = refl;
  }

pub accepted_format : AcceptedFormat
accepted_format s id n h = let a = accepted (format id n) s h in rw a.is (formats id n s (format_told id n s a))
