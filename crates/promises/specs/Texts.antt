-- Texts: what packing keeps, and which files know of it.
use Rattle.std.specs.Prelude.{true, false, List, [], ◌∷◌, ◌++◌, map, ◌≢◌, ◌≡◌, refl, ℕ, ◌+◌, ◌*◌, ◌≤◌, leb, length, replicate}
use Rattle.numbers.specs.Numbers.{record_limit}
use Rattle.lists.specs.Lists.{all, lists_open}
use Rattle.text.specs.Packing.{space, most_spaces, is_text, shown, rest, packed, unpacked, packing_open}
use Rattle.work.specs.Transfers.{as_text}
use Rattle.desk.specs.Desk.{State, file_of}
use Rattle.desk.specs.Calls.{read, write, update, step}
use Rattle.promises.specs.Sectors.{Bytes}

-- "a packed text reads back as itself,
abbrev pub PackedReadsBack : Type 0
PackedReadsBack = (t : List ℕ) → is_text t ≡ true → unpacked (packed t) ≡ t

-- so no two texts are stored alike"
abbrev pub NoTwoStoredAlike : Type 0
NoTwoStoredAlike = (t u : List ℕ) → is_text t ≡ true → is_text u ≡ true → packed t ≡ packed u → t ≡ u

abbrev pub NeverLonger : Type 0
NeverLonger = (t : List ℕ) → length (packed t) ≤ length t

-- every byte of a packed text stands for something
abbrev pub NoEmptyByte : Type 0
NoEmptyByte = (t : List ℕ) → is_text t ≡ true → all (λ b. leb 1 (length (shown b))) (packed t) ≡ true

-- a buffer of 127 times the record limit, 520,192 bytes, holds the text of any record, and one record has a text of that length
pub record LongestText : Type 0 where
  pub holds_any : (ss : List ℕ) → Bytes ss → length ss ≤ record_limit → length (unpacked ss) ≤ most_spaces * record_limit
  pub is_reached : length (unpacked (replicate record_limit 0xFF)) ≡ most_spaces * record_limit

-- RULES, Texts: packing in the rule's own words, of runs
abbrev pub spaces : ℕ → List ℕ
spaces n = replicate n space

pub record RunByRun : Type 0 where
  -- what is no space stays
  pub no_text : packed [] ≡ []
  pub no_space : (b : ℕ) (t : List ℕ) → b ≢ space → packed (b ∷ t) ≡ b ∷ packed t
  -- $FF goes out while more than 127 spaces remain,
  pub more_remain : (n : ℕ) (t : List ℕ) → 1 ≤ n → packed (spaces (most_spaces + n) ++ t) ≡ 0xFF ∷ packed (spaces n ++ t)
  -- and then the rest, at the text's end or before another byte
  pub rest_at_end : (n : ℕ) → n ≤ most_spaces → packed (spaces n) ≡ rest n
  pub rest_before : (n : ℕ) → n ≤ most_spaces → (b : ℕ) (t : List ℕ) → b ≢ space → packed (spaces n ++ (b ∷ t)) ≡ rest n ++ (b ∷ packed t)

-- 1, 2, 126, 127, 128, 129, 254, 255 and 256 spaces; spaces at both ends of a word; no text: one computed list
pub samples : List (List ℕ)
samples =
    map spaces (1 ∷ 2 ∷ 126 ∷ 127 ∷ 128 ∷ 129 ∷ 254 ∷ 255 ∷ 256 ∷ [])
    ++ ((0x20 ∷ 0x20 ∷ 0x41 ∷ 0x42 ∷ 0x20 ∷ 0x20 ∷ 0x20 ∷ []) ∷ [] ∷ [])

pub samples_packed : List (List ℕ)
samples_packed =
    (0x20 ∷ [])
    ∷ (0x82 ∷ [])
    ∷ (0xFE ∷ [])
    ∷ (0xFF ∷ [])
    ∷ (0xFF ∷ 0x20 ∷ [])
    ∷ (0xFF ∷ 0x82 ∷ [])
    ∷ (0xFF ∷ 0xFF ∷ [])
    ∷ (0xFF ∷ 0xFF ∷ 0x20 ∷ [])
    ∷ (0xFF ∷ 0xFF ∷ 0x82 ∷ [])
    ∷ (0x82 ∷ 0x41 ∷ 0x42 ∷ 0x83 ∷ [])
    ∷ []
    ∷ []

abbrev pub SamplesPacked : Type 0
SamplesPacked = map packed samples ≡ samples_packed

pub samples_packed_lem : SamplesPacked
unfolding samples samples_packed lists_open packing_open
samples_packed_lem = refl

-- "Fixed and contiguous files ignore the option"
pub record Ignored (s : State) (caller lun sel num : ℕ) (bs : List ℕ) : Type 0 where
  pub by_read : step (read caller lun sel num true bs) s ≡ step (read caller lun sel num false bs) s
  pub by_write : step (write caller lun sel num true bs) s ≡ step (write caller lun sel num false bs) s
  pub by_update : step (update caller lun sel num true bs) s ≡ step (update caller lun sel num false bs) s

abbrev pub OptionIgnored : Type 0
OptionIgnored = (s : State) (caller lun sel num : ℕ) (bs : List ℕ) → as_text true (file_of s lun) ≡ false → Ignored s caller lun sel num bs
