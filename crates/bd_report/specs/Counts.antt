-- The line of the cache: how many looks of engines hit, and how many missed.
use Rattle.std.specs.Prelude.{◌≡◌, ℕ, Bool, true, false, List, [], ◌∷◌, ◌++◌, codes, count_by}
use Rattle.bd_blocks.specs.declared.text.TheConstants.{LF}
use Rattle.bd_report.specs.declared.looks.Looks.{Looks}
use Rattle.bd_report.specs.Reports.{total_text}
use Rattle.bd_tables.specs.declared.request.Looked.{Looked}
use Rattle.bd_tables.specs.declared.request.Looked.TheVariants.{Hit, Miss}
use Rattle.bd_turns.specs.declared.turn.Event.{Event}
use Rattle.bd_turns.specs.declared.turn.Row.{Row}
use Rattle.bd_turns.specs.declared.turn.Row.TheVariants as rows

-- whether a turn of this row looked into the cache and hit
abbrev pub does_hit : Row → Bool
does_hit (rows.Look Hit) = true
does_hit row = false

-- whether it looked into the cache and missed
abbrev pub does_miss : Row → Bool
does_miss (rows.Look Miss) = true
does_miss row = false

-- whether the event is a look that hit
abbrev pub is_hit : Event → Bool
is_hit event = does_hit event.row

-- whether the event is a look that missed
abbrev pub is_missed_look : Event → Bool
is_missed_look event = does_miss event.row

-- these are the numbers of the trace's looks of each kind
pub record AreLooks (trace : List Event) (looks : Looks) : Type 0 where
  pub hits : looks.hits ≡ count_by is_hit trace
  pub misses : looks.misses ≡ count_by is_missed_look trace

-- the line with these numbers
abbrev pub looks_line : ℕ → ℕ → List ℕ
looks_line hits misses = total_text (codes "cache hits ") hits ++ total_text (codes " misses ") misses ++ LF ∷ []

-- the line of the cache of a run with this trace
abbrev pub cache_line : List Event → List ℕ
cache_line trace = looks_line (count_by is_hit trace) (count_by is_missed_look trace)
