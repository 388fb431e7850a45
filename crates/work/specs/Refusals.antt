-- Refusals: each one's number, and the form in which every call's refusals stand in order. Defines RULES, Status numbers (the numbers).
use Rattle.std.specs.Prelude.{if◌then◌else◌, Bool, List, [], ◌∷◌, ℕ}
use Rattle.work.specs.declared.Refusal.{Refusal}
use Rattle.work.specs.declared.Refusal.TheVariants.{UnknownType, BadLun, WrongCode, NoRight, InUse, NoFile, BadRequest, BadLength}
use Rattle.work.specs.declared.Refusal.TheVariants.{PastEnd, OutOfRange, OtherLength, Exists, NoRoom, BadDescriptor, NoSegment}
use Rattle.work.specs.declared.Refusal.TheVariants.{NameTaken, DirectoryFull, NotSound}

-- RULES, Status numbers
abbrev pub code : Refusal → ℕ
code UnknownType = 0x02
code BadLun = 0x03
code WrongCode = 0x07
code NoRight = 0x0B
code InUse = 0x0D
code NoFile = 0x17
code BadRequest = 0x82
code BadLength = 0x84
code PastEnd = 0xC2
code OutOfRange = 0x60
code OtherLength = 0x61
code Exists = 0x62
code NoRoom = 0x63
code BadDescriptor = 0x64
code NoSegment = 0x65
code NameTaken = 0x66
code DirectoryFull = 0x67
code NotSound = 0x6F

-- A refusal and its condition
pub record Rule : Type 0 where
  pub refusal : Refusal
  pub holds : Bool

infix 90 ◌if◌
abbrev pub ◌if◌ : Refusal → Bool → Rule
r if b = record { refusal = r; holds = b }

-- RULES, The calls: the first refusal whose condition holds is answered: what `refuse` makes of it; if none holds, `done`
module _ {A : Type 0} where
  unfoldable pub ruled : List Rule → (Refusal → A) → A → A
  ruled [] refuse done = done
  ruled (r ∷ rs) refuse done = if r.holds then refuse r.refusal else ruled rs refuse done

unfoldable pub refusals_open : Unit {0}
unfolding ruled
refusals_open = tt
