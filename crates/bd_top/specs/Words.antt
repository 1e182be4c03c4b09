-- What the words of the command line say.
use Rattle.std.specs.Prelude.{ℕ, ◌-◌, ◌^◌, Bool, false, not, ◌&&◌, nat_eq, nat_lt, cond, List, [], ◌∷◌, Option, None, Some, codes, map, String, string_bytes}
use Rattle.std.specs.Int.Digits.{number_from_digits}
use Rattle.std.specs.Option.{option_map}
use Rattle.std.specs.declared.alloc.Global.{Global}
use Rattle.std.specs.List.{list_any}
use Rattle.std.specs.Str.{bytes_eq}
use Rattle.bd_blocks.specs.Texts.{number_text}
use Rattle.bd_top.specs.declared.words.Command.{Command}
use Rattle.bd_top.specs.declared.words.Command.TheVariants.{Check, Make, Replay, Verify}

-- what words ask for: a command, the paths of its files, and the number from which an image and a script are made
pub data Request : Type 0 where
  replay_of : (image script out : List ℕ) (journal : Bool) → Request
  verify_of : (image script journal : List ℕ) → Request
  check_of : (image : List ℕ) → Request
  make_of : (n : ℕ) (image script : List ℕ) → Request

-- whether a word may name a file: it is not empty and does not begin with a dash
abbrev pub is_path : List ℕ → Bool
is_path [] = false
is_path (c ∷ word) = not (nat_eq c 45)

-- the number that stands there in decimal digits
unfoldable pub number_spelled : List ℕ → ℕ
number_spelled word = number_from_digits 10 (map (λ digit. digit - 48) word)

-- the number of at most 64 bits of which the word is the one text
unfoldable pub number_in : List ℕ → Option ℕ
number_in word =
    cond (bytes_eq word (number_text (number_spelled word)) && nat_lt (number_spelled word) (2 ^ 64))
    (Some (number_spelled word)) None

-- whether the word asks for the journal too
abbrev pub is_flag : List ℕ → Bool
is_flag word = bytes_eq word (codes "--journal")

-- the words without the first that asks for the journal
abbrev pub without_flag : List (List ℕ) → List (List ℕ)
without_flag [] = []
without_flag (word ∷ words) = cond (is_flag word) words (word ∷ without_flag words)

-- what `replay` with these paths asks for, with the journal or without: there are three
abbrev pub replay_of_paths : (journal : Bool) → List (List ℕ) → Option Request
replay_of_paths journal (image ∷ script ∷ out ∷ []) =
    cond (is_path image && (is_path script && is_path out)) (Some (replay_of image script out journal)) None
replay_of_paths journal words = None

-- what `replay` with these words asks for: three paths, and the word for the journal at any place, or not at all
abbrev pub replay_request : List (List ℕ) → Option Request
replay_request words = replay_of_paths (list_any is_flag words) (without_flag words)

-- what `verify` with these words asks for: all three are paths
abbrev pub verify_request : (image script journal : List ℕ) → Option Request
verify_request image script journal =
    cond (is_path image && (is_path script && is_path journal)) (Some (verify_of image script journal)) None

-- what `make` with these words asks for: a number and two paths
abbrev pub make_request : (number image script : List ℕ) → Option Request
make_request number image script =
    cond (is_path image && is_path script) (option_map (λ n. make_of n image script) (number_in number)) None

-- what the words after `replay` ask for: there are three or four
abbrev pub replay_in : List (List ℕ) → Option Request
replay_in (first ∷ second ∷ third ∷ []) = replay_request (first ∷ second ∷ third ∷ [])
replay_in (first ∷ second ∷ third ∷ fourth ∷ []) = replay_request (first ∷ second ∷ third ∷ fourth ∷ [])
replay_in words = None

-- what the words after another command ask for: `verify` or `make` with three words, or `check` with one
abbrev pub other_in : List ℕ → List (List ℕ) → Option Request
other_in command (first ∷ second ∷ third ∷ []) =
    cond (bytes_eq command (codes "verify")) (verify_request first second third)
    (cond (bytes_eq command (codes "make")) (make_request first second third) None)
other_in command (image ∷ []) =
    cond (bytes_eq command (codes "check") && is_path image) (Some (check_of image)) None
other_in command words = None

-- what the words ask for, if anything
abbrev pub request_in : List (List ℕ) → Option Request
request_in [] = None
request_in (command ∷ words) =
    cond (bytes_eq command (codes "replay")) (replay_in words) (other_in command words)

-- the same of strings
abbrev pub request_of : List (String Global) → Option Request
request_of words = request_in (map string_bytes words)

-- what a command asks for, with the paths that it carries
abbrev pub asked_by : Command → Request
asked_by (Replay image script out journal) = replay_of image.now script.now out.now journal
asked_by (Verify image script journal) = verify_of image.now script.now journal.now
asked_by (Check image) = check_of image.now
asked_by (Make n image script) = make_of n image.now script.now
