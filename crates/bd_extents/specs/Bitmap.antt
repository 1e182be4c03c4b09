-- Marks on numbers, one bit each, in words of 64 bits.
use Rattle.std.specs.Prelude.{◌≡◌, ℕ, ◌*◌, ◌/◌, ◌%◌, ◌<◌, ◌≤◌, Bool, true, false, nat_eq, List, length, slice_index, filter}
use Rattle.std.specs.Int.{bit_at}
use Rattle.std.specs.List.{range_with_len}
use Rattle.std.specs.Ordering.{nat_cmp}
use Rattle.std.specs.FinSet as set
use Rattle.bd_base.specs.declared.limits.TheConstants.{BLOCKS}

-- whether a number is marked
abbrev pub is_marked : List ℕ → ℕ → Bool
is_marked words n = nat_eq (bit_at (slice_index words (n / 64)) (n % 64)) 1

-- the marked numbers below total
abbrev pub marked_below : ℕ → List ℕ → set.FinSet nat_cmp
marked_below total words = set.from_list (filter (is_marked words) (range_with_len 0 total))

-- no number is marked
abbrev pub NoneMarked : List ℕ → Type 0
NoneMarked words = (n : ℕ) → is_marked words n ≡ false

-- no number of a word before this one is marked
abbrev pub NoneMarkedBefore : List ℕ → ℕ → Type 0
NoneMarkedBefore words word = (n : ℕ) → n < 64 * word → is_marked words n ≡ false

-- the number is marked, and no lower one is
pub record IsLowestMark (words : List ℕ) (number : ℕ) : Type 0 where
  pub marked : is_marked words number ≡ true
  pub before : (n : ℕ) → n < number → is_marked words n ≡ false

-- these words mark numbers below total alone, and no number in words before the first one named
pub record IsBitmap (total : ℕ) (words : List ℕ) (first_word : ℕ) : Type 0 where
  pub in_range : total ≤ BLOCKS
  pub few_words : length words ≤ 256
  pub room : total ≤ 64 * length words
  pub below_total : (n : ℕ) → total ≤ n → is_marked words n ≡ false
  pub none_before : NoneMarkedBefore words first_word
