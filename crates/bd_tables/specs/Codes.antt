-- How what contracts see of plain tables is stored: each value as one of numbers, truth values, pairs, sums and lists.
use Rattle.std.specs.Prelude.{◌≡◌, ℕ, zero, suc, Bool, ◌⊎◌, Option, None, Some, List, refl}
use Rattle.std.proofs.Common.{inl, inr}
use Rattle.std.specs.Coded.{Coded, code_by, coded×, coded⊎, coded_ℕ, coded_bool, coded_list, coded_option}
use Rattle.std.specs.FinMap as fin
use Rattle.bd_base.specs.declared.journal.Found.{Found}
use Rattle.bd_base.specs.declared.journal.Found.TheVariants.{NoDirectory, NoRight, NoEntry, Beyond}
use Rattle.bd_base.specs.declared.key.Cell.{Cell}
use Rattle.bd_base.specs.declared.key.Key.{Key}
use Rattle.bd_base.specs.Keys.{key_code, pair_code}
use Rattle.bd_file_table.specs.Fragments.{Book, cell_code, fragment_code}
use Rattle.bd_lines.specs.declared.lines.Line.{Line}
use Rattle.bd_lines.specs.Lines.{LineList}
use Rattle.bd_tables.specs.declared.request.Completion.{Completion}
use Rattle.bd_tables.specs.declared.request.Request.{Request}
use Rattle.bd_tables.specs.declared.state.Right.{Right}
use Rattle.bd_tables.specs.declared.state.RightState.{RightState}
use Rattle.bd_tables.specs.declared.state.RightState.TheVariants.{On, Cleared, Drained}
use Rattle.bd_tables.specs.declared.state.Walk.{Walk}
use Rattle.bd_tables.specs.declared.state.Walk.TheVariants.{Idle, Entered, Refused, Translated}
use Rattle.bd_tables.specs.Plain.{Places, PlainState}
use Rattle.bd_tables.specs.State.{Rights}

-- ---- rights

abbrev pub from_state : RightState → Option (Option (List Bool))
from_state On = None
from_state Cleared = Some None
from_state (Drained swept) = Some (Some swept)

abbrev pub to_state : Option (Option (List Bool)) → RightState
to_state None = On
to_state (Some None) = Cleared
to_state (Some (Some swept)) = Drained swept

pub to_state-from_state : (state : RightState) → to_state (from_state state) ≡ state
to_state-from_state On = refl
to_state-from_state Cleared = refl
to_state-from_state (Drained swept) = refl

abbrev pub state_code : Coded RightState
state_code =
    code_by (Option (Option (List Bool))) (coded_option (coded_option (coded_list coded_bool))) from_state to_state
    to_state-from_state

abbrev pub right_code : Coded Right
right_code =
    code_by (ℕ × (Bool × RightState)) (coded× coded_ℕ (coded× coded_bool state_code))
    (λ right. (right.file, (right.write, right.state)))
    (λ n. record { file = n.0; write = n.1.0; state = n.1.1 }) (λ _. refl)

abbrev pub rights_code : Coded Rights
rights_code = fin.code key_code right_code

-- ---- lines

abbrev pub line_code : Coded Line
line_code =
    code_by (Key × (ℕ × Cell)) (coded× key_code (coded× coded_ℕ cell_code))
    (λ line. (line.key, (line.index, line.cell)))
    (λ n. record { key = n.0; index = n.1.0; cell = n.1.1 }) (λ _. refl)

-- ---- walks

abbrev pub from_found : Found → ℕ
from_found NoDirectory = 0
from_found NoRight = 1
from_found NoEntry = 2
from_found (Beyond limit) = suc (suc (suc limit))

abbrev pub to_found : ℕ → Found
to_found zero = NoDirectory
to_found (suc zero) = NoRight
to_found (suc (suc zero)) = NoEntry
to_found (suc (suc (suc limit))) = Beyond limit

pub to_found-from_found : (found : Found) → to_found (from_found found) ≡ found
to_found-from_found NoDirectory = refl
to_found-from_found NoRight = refl
to_found-from_found NoEntry = refl
to_found-from_found (Beyond limit) = refl

abbrev pub found_code : Coded Found
found_code = code_by ℕ coded_ℕ from_found to_found to_found-from_found

abbrev pub request_code : Coded Request
request_code =
    code_by (Key × (ℕ × (ℕ × Bool))) (coded× key_code (coded× coded_ℕ (coded× coded_ℕ coded_bool)))
    (λ request. (request.key, (request.index, (request.hi, request.write))))
    (λ n. record { key = n.0; index = n.1.0; hi = n.1.1.0; write = n.1.1.1 }) (λ _. refl)

abbrev pub completion_code : Coded Completion
completion_code =
    code_by (Bool × (Bool × (ℕ × ℕ))) (coded× coded_bool (coded× coded_bool (coded× coded_ℕ coded_ℕ)))
    (λ completion. (completion.read, (completion.write, (completion.block, completion.limit))))
    (λ n. record { read = n.0; write = n.1.0; block = n.1.1.0; limit = n.1.1.1 }) (λ _. refl)

-- a walk that is not idle, in parts
abbrev pub WalkParts : Type 0
WalkParts = Request ⊎ ((Request × Found) ⊎ (Request × Completion))

abbrev pub from_walk : Walk → Option WalkParts
from_walk Idle = None
from_walk (Entered request) = Some (inl request)
from_walk (Refused request found) = Some (inr (inl (request, found)))
from_walk (Translated request completion) = Some (inr (inr (request, completion)))

abbrev pub to_walk : Option WalkParts → Walk
to_walk None = Idle
to_walk (Some (inl request)) = Entered request
to_walk (Some (inr (inl both))) = Refused both.0 both.1
to_walk (Some (inr (inr both))) = Translated both.0 both.1

pub to_walk-from_walk : (walk : Walk) → to_walk (from_walk walk) ≡ walk
to_walk-from_walk Idle = refl
to_walk-from_walk (Entered request) = refl
to_walk-from_walk (Refused request found) = refl
to_walk-from_walk (Translated request completion) = refl

abbrev pub walk_code : Coded Walk
walk_code =
    code_by (Option WalkParts)
    (coded_option (coded⊎ request_code (coded⊎ (coded× request_code found_code)
    (coded× request_code completion_code))))
    from_walk to_walk to_walk-from_walk

-- ---- the whole

abbrev pub plain_code : Coded PlainState
plain_code =
    code_by (Rights × (Book × (LineList × Places)))
    (coded× rights_code (coded× (fin.code pair_code fragment_code)
    (coded× (coded_list (coded_option line_code)) (coded_list (coded_option walk_code)))))
    (λ plain. (plain.rights, (plain.book, (plain.lines, plain.places))))
    (λ n. record { rights = n.0; book = n.1.0; lines = n.1.1.0; places = n.1.1.1 }) (λ _. refl)
