-- Sixteen LUNs as 192 bytes, and back. Defines RULES, Desk bytes.
use Rattle.std.specs.Prelude.{if◌then◌else◌, Bool, true, false, not, List, ◌∷◌, ◌++◌, map, ◌≡◌, ℕ, ◌*◌, ◌%◌, ◌<◌, ◌≤◌, eqb, leb, length, get_or}
use Rattle.numbers.specs.Numbers.{lun_count}
use Rattle.lists.specs.Lists.{◌and◌, ◌or◌, all, flat, pieces}
use Rattle.lists.specs.Parts.{byte, word, long, bytes2, bytes4, blanks, zeros}
use Rattle.luns.specs.declared.Lun.{Lun}
use Rattle.luns.specs.declared.Place.{Place}
use Rattle.luns.specs.declared.Place.TheVariants.{Fresh, At}
use Rattle.luns.specs.Luns.{free_lun}
use Rattle.luns.specs.Modes.{mode_of, mode_number}

-- RULES, Desk bytes: twelve a LUN, 192 in all
abbrev pub lun_bytes : ℕ
lun_bytes = 12

abbrev pub desk_size : ℕ
desk_size = lun_bytes * lun_count

-- RULES, Desk bytes: n and i are zero when Fresh
abbrev pub count_of : Place → ℕ
count_of Fresh = 0
count_of (At i n) = n

abbrev pub first_of : Place → ℕ
first_of Fresh = 0
first_of (At i n) = i

-- RULES, Desk bytes: 0 is 1, 1 mode, 2-3 user, 4 slot, 5 n, 6 the code offered, 7 zero, 8-11 i; a free LUN is twelve zeros. A number that
-- is too large for its bytes keeps its lowest ones; no call makes such a desk (`CallsMakePlain` of promises)
unfoldable pub packed_lun : Lun → List ℕ
packed_lun u =
    if u.held
    then 1 ∷ mode_number u.mode
    ∷ (bytes2 (u.user % 65536)
    ++ (u.slot % 256 ∷ count_of u.place % 256 ∷ u.offered % 256 ∷ 0 ∷ bytes4 (first_of u.place % 4294967296)))
    else blanks lun_bytes

unfoldable pub packed_luns : List Lun → List ℕ
packed_luns us = flat packed_lun us

-- RULES, Desk bytes: the forms that stand for a LUN: twelve zeros; or 1, a mode of 0 to 7, zero at 7, and no i without an n
unfoldable pub lun_form : List ℕ → Bool
lun_form b =
    zeros b
    or eqb (byte b 0) 1 and leb (byte b 1) 7 and eqb (byte b 7) 0 and (not (eqb (byte b 5) 0) or eqb (long b 8) 0)

unfoldable pub desk_form : List ℕ → Bool
desk_form bs = eqb (length bs) desk_size and all lun_form (pieces lun_count lun_bytes bs)

-- the LUN that such bytes stand for
unfoldable pub place_in : List ℕ → Place
place_in b = if eqb (byte b 5) 0 then Fresh else At (long b 8) (byte b 5)

unfoldable pub unpacked_lun : List ℕ → Lun
unpacked_lun b =
    if eqb (byte b 0) 0 then free_lun
    else record { held = true; user = word b 2; slot = byte b 4; mode = mode_of (byte b 1); offered = byte b 6; place = place_in b }

unfoldable pub unpacked_luns : List ℕ → List Lun
unpacked_luns bs = map unpacked_lun (pieces lun_count lun_bytes bs)

-- A plain LUN: a free one holds nothing, and the numbers of a held one have room in its bytes
pub record PlainPlace (i n : ℕ) : Type 0 where
  pub some_moved : 1 ≤ n
  pub n_fits : n < 256
  pub i_fits : i < 4294967296

pub record PlainLun (u : Lun) : Type 0 where
  pub free_is_empty : u.held ≡ false → u ≡ free_lun
  pub user_fits : u.user < 65536
  pub slot_fits : u.slot < 256
  pub code_fits : u.offered < 256
  pub place_plain : (i n : ℕ) → u.place ≡ At i n → PlainPlace i n

pub record PlainLuns (us : List Lun) : Type 0 where
  pub sixteen : length us ≡ lun_count
  pub each_plain : (k : ℕ) → PlainLun (get_or us k free_lun)

unfoldable pub desk_bytes_open : Unit {0}
unfolding packed_lun packed_luns lun_form desk_form place_in unpacked_lun unpacked_luns
desk_bytes_open = tt
