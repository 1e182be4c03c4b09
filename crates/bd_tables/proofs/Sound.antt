-- The tables stay sound through each turn.
use Rattle.std.proofs.Common.{◌≡◌, ℕ, zero, suc, ◌≤◌, Bool, true, false, cond, nat_le, Option, None, Some, List, [], ◌∷◌, refl, sym, ap, ◌∙◌, subst, arith, set}
use Rattle.std.specs.FinMap as fin
use Rattle.std.proofs.lemmas.Bool.{and_parts, eqb-true, false≢true, leb-true}
use Rattle.std.proofs.lemmas.List.{length-set}
use Rattle.std.proofs.lemmas.Option.{none-some, same_Some}
use Rattle.bd_base.specs.declared.journal.Found.{Found}
use Rattle.bd_base.specs.declared.journal.Found.TheVariants.{NoEntry, Beyond}
use Rattle.bd_base.specs.declared.key.Cell.{Cell}
use Rattle.bd_base.specs.declared.key.Key.{Key}
use Rattle.bd_base.specs.Keys.{same_key-is}
use Rattle.bd_lines.specs.declared.lines.Line.{Line}
use Rattle.bd_lines.specs.Lines.{hit, line_at, line_of, served, serves}
use Rattle.bd_tables.specs.declared.request.Completion.{Completion}
use Rattle.bd_tables.specs.declared.request.Request.{Request}
use Rattle.bd_tables.specs.declared.state.Right.{Right}
use Rattle.bd_tables.specs.declared.state.RightState.{RightState}
use Rattle.bd_tables.specs.declared.state.RightState.TheVariants.{On, Cleared, Drained}
use Rattle.bd_tables.specs.declared.state.Walk.{Walk}
use Rattle.bd_tables.specs.declared.state.Walk.TheVariants.{Idle, Entered, Refused, Translated}
use Rattle.bd_tables.specs.Effects.{entered_walk, looked_walk, read_walk, with_walk}
use Rattle.bd_tables.specs.Laws.{EnterKeeps, FillKeeps, HitsAreLookups, LookKeeps, OnlyOnGrants, ReadKeeps, RetireKeeps}
use Rattle.bd_tables.specs.Sound.{Allows, IsCachedIn, IsHeldFor, IsOfEntry, IsOpen, IsSound, IsUnswept, OnRight, granted_of}
use Rattle.bd_tables.specs.State.{TableState, cell_of, completion_of, found_entering, found_under, lookup, walk_at}

-- ---- what an engine is told

under : (state : RightState) (allowed write : Bool) → found_under state allowed write ≡ None → (state ≡ On) × (write ≡ true → allowed ≡ true)
under On true write none = (refl, λ w. refl)
under On false true none = absurd (none-some _ (sym none))
under On false false none = (refl, λ w. absurd (false≢true w))
under Cleared allowed write none = absurd (none-some _ (sym none))
under (Drained swept) allowed write none = absurd (none-some _ (sym none))

pub only_on_grants : OnlyOnGrants
only_on_grants None write none = absurd (none-some _ (sym none))
only_on_grants (Some right) write none =
    let u = under right.state right.write write none in
    record { on = u.0; writable = u.1 }

open_On : (state : RightState) → state ≡ On → IsOpen state
open_On state on = subst IsOpen (sym on) tt

allowed-entering : (right : Option Right) (request : Request) → found_entering right request.write ≡ None → OnRight (Allows request) right
allowed-entering None request none = absurd (none-some _ (sym none))
allowed-entering (Some right) request none =
    let u = under right.state right.write request.write none in
    record { undrained = open_On right.state u.0; writable = u.1 }

-- the line that serves is of the key and the index, and reaches far enough
pub record IsServedBy (key : Key) (index hi : ℕ) (cell : Cell) (line : Line) : Type 0 where
  pub key_is : line.key ≡ key
  pub index_is : line.index ≡ index
  pub cell_is : line.cell ≡ cell
  pub reaches : hi ≤ cell.limit

served_by : (key : Key) (index hi : ℕ) (cell : Cell) (line : Line) → (b : Bool) → serves key index hi line ≡ b →
    cond b (Some line.cell) None ≡ Some cell →
    IsServedBy key index hi cell line
served_by key index hi cell line false s is = absurd (none-some cell is)
served_by key index hi cell line true s is =
    let first = and_parts _ _ s in
    let rest = and_parts _ _ first.1 in
    let same : line.cell ≡ cell = same_Some _ _ is in
    record {
      key_is = same_key-is line.key key first.0;
      index_is = eqb-true _ _ rest.0;
      cell_is = same;
      reaches = subst (λ (c : Cell). hi ≤ c.limit) same (leb-true _ _ rest.1);
    }

-- the line that a look hit
pub record IsHitBy (tables : TableState) (key : Key) (index hi : ℕ) (cell : Cell) : Type 0 where
  pub line : Line
  pub there : line_at tables.lines (line_of key index) ≡ Some line
  pub serves : IsServedBy key index hi cell line

hit_by : (tables : TableState) (key : Key) (index hi : ℕ) (cell : Cell) (l : Option Line) → line_at tables.lines (line_of key index) ≡ l →
    served key index hi l ≡ Some cell → IsHitBy tables key index hi cell
hit_by tables key index hi cell None at is = absurd (none-some cell is)
hit_by tables key index hi cell (Some line) at is = record { line = line; there = at; serves = served_by key index hi cell line _ refl is }

pub hits_are_lookups : HitsAreLookups
hits_are_lookups tables sound key index hi cell is =
    let h = hit_by tables key index hi cell _ refl is in
    let c = sound.cached (line_of key index) h.line h.there in
    let by_key = subst (λ k. IsOfEntry h.line.cell (lookup tables k h.line.index)) h.serves.key_is c.entry in
    let by_index = subst (λ i. IsOfEntry h.line.cell (lookup tables key i)) h.serves.index_is by_key in
    subst (λ x. IsOfEntry x (lookup tables key index)) h.serves.cell_is by_index

-- ---- a change of one walk

-- a walk after another was set
walk-set : (walks : List Walk) (p : ℕ) (w : Walk) (q : ℕ) (P : Walk → Type 0) → P w → P (walk_at walks q) → P (walk_at (set walks p w) q)
walk-set [] p w q P new old = old
walk-set (x ∷ walks) zero w zero P new old = new
walk-set (x ∷ walks) zero w (suc q) P new old = old
walk-set (x ∷ walks) (suc p) w zero P new old = old
walk-set (x ∷ walks) (suc p) w (suc q) P new old = walk-set walks p w q P new old

-- what soundness asks of a walk
pub record IsWalkSound (tables : TableState) (walk : Walk) : Type 0 where
  pub granted : (request : Request) → granted_of walk ≡ Some request → OnRight (Allows request) (fin.get tables.rights request.key)
  pub held : (request : Request) (completion : Completion) → walk ≡ Translated request completion → IsHeldFor tables request completion

walk_sound : (tables : TableState) → IsSound tables → (process : ℕ) → IsWalkSound tables (walk_at tables.walks process)
walk_sound tables sound process = record { granted = sound.granted process; held = sound.held process }

with_walk-sound : (tables : TableState) → IsSound tables → (process : ℕ) (walk : Walk) → IsWalkSound tables walk →
    IsSound (with_walk tables process walk)
with_walk-sound tables sound process walk new =
    let all = λ (q : ℕ). walk-set tables.walks process walk q (IsWalkSound tables) new (walk_sound tables sound q) in
    record {
      sixteen = sound.sixteen;
      keys = sound.keys;
      granted = λ q. (all q).granted;
      held = λ q request completion is.
          let h = (all q).held request completion is in
          record { entry = h.entry; reaches = h.reaches; read = h.read; write = h.write };
      cached = λ c line is.
          let h = sound.cached c line is in
          record { right = h.right; entry = h.entry };
    }

idle_sound : (tables : TableState) → IsWalkSound tables Idle
idle_sound tables = record { granted = λ request is. absurd (none-some request is); held = λ request completion is. absurd (cc) }

entered_sound : (tables : TableState) (request : Request) → OnRight (Allows request) (fin.get tables.rights request.key) →
    IsWalkSound tables (Entered request)
entered_sound tables request allowed = record {
  granted = λ other is. subst (λ (r : Request). OnRight (Allows r) (fin.get tables.rights r.key)) (same_Some _ _ is) allowed;
  held = λ other completion is. absurd (cc);
}

refused_sound : (tables : TableState) (request : Request) (found : Found) → IsWalkSound tables (Refused request found)
refused_sound tables request found = record { granted = λ other is. absurd (none-some other is); held = λ other completion is. absurd (cc) }

translated_sound : (tables : TableState) (request : Request) (cell : Cell) → OnRight (Allows request) (fin.get tables.rights request.key) →
    IsOfEntry cell (lookup tables request.key request.index) → request.hi ≤ cell.limit →
    IsWalkSound tables (Translated request (completion_of request cell))
translated_sound tables request cell allowed entry reaches = record {
  granted = λ other is. subst (λ (r : Request). OnRight (Allows r) (fin.get tables.rights r.key)) (same_Some _ _ is) allowed;
  held = λ other completion is.
      let r : request ≡ other = cc in
      let c : completion_of request cell ≡ completion = cc in
      subst (λ (r : Request). IsHeldFor tables r completion) r
      (subst (λ (c : Completion). IsHeldFor tables request c) c (record { entry = entry; reaches = reaches; read = refl; write = refl }));
}

enter-walk : (tables : TableState) (request : Request) (found : Option Found) → found_entering (fin.get tables.rights request.key) request.write ≡ found →
    IsWalkSound tables (entered_walk request found)
enter-walk tables request None is = entered_sound tables request (allowed-entering _ request is)
enter-walk tables request (Some found) is = refused_sound tables request found

pub enter_keeps : EnterKeeps
enter_keeps tables sound request = with_walk-sound tables sound request.key.process _ (enter-walk tables request _ refl)

entered-allowed : (tables : TableState) → IsSound tables → (process : ℕ) (request : Request) → walk_at tables.walks process ≡ Entered request →
    OnRight (Allows request) (fin.get tables.rights request.key)
entered-allowed tables sound process request is = sound.granted process request (ap granted_of is)

look-walk : (tables : TableState) → IsSound tables → (request : Request) → OnRight (Allows request) (fin.get tables.rights request.key) →
    (cell : Option Cell) → hit tables.lines request.key request.index request.hi ≡ cell → IsWalkSound tables (looked_walk request cell)
look-walk tables sound request allowed None is = entered_sound tables request allowed
look-walk tables sound request allowed (Some cell) is =
    let h = hit_by tables request.key request.index request.hi cell _ refl is in
    translated_sound tables request cell allowed (hits_are_lookups tables sound request.key request.index request.hi cell is) h.serves.reaches

pub look_keeps : LookKeeps
look_keeps tables sound request at =
    with_walk-sound tables sound request.key.process _ (look-walk tables sound request (entered-allowed tables sound request.key.process request at) _ refl)

read_far-walk : (tables : TableState) (request : Request) (cell : Cell) → OnRight (Allows request) (fin.get tables.rights request.key) →
    lookup tables request.key request.index ≡ Some cell → (b : Bool) → nat_le request.hi cell.limit ≡ b →
    IsWalkSound tables (cond b (Translated request (completion_of request cell)) (Refused request (Beyond cell.limit)))
read_far-walk tables request cell allowed is true far =
    translated_sound tables request cell allowed (subst (λ (e : Option Cell). IsOfEntry cell e) (sym is) (record { block = refl; limit = omega arith }))
    (leb-true _ _ far)
read_far-walk tables request cell allowed is false far = refused_sound tables request (Beyond cell.limit)

read-walk : (tables : TableState) (request : Request) → OnRight (Allows request) (fin.get tables.rights request.key) →
    (cell : Option Cell) → lookup tables request.key request.index ≡ cell → IsWalkSound tables (read_walk request cell)
read-walk tables request allowed None is = refused_sound tables request NoEntry
read-walk tables request allowed (Some cell) is = read_far-walk tables request cell allowed is _ refl

pub read_keeps : ReadKeeps
read_keeps tables sound request at =
    with_walk-sound tables sound request.key.process _ (read-walk tables request (entered-allowed tables sound request.key.process request at) _ refl)

pub retire_keeps : RetireKeeps
retire_keeps tables sound process = with_walk-sound tables sound process Idle (idle_sound tables)

-- ---- a change of one line

line-set : (lines : List (Option Line)) (p : ℕ) (w : Option Line) (q : ℕ) (P : ℕ → Option Line → Type 0) → P p w → P q (line_at lines q) →
    P q (line_at (set lines p w) q)
line-set [] p w q P new old = old
line-set (x ∷ lines) zero w zero P new old = new
line-set (x ∷ lines) zero w (suc q) P new old = old
line-set (x ∷ lines) (suc p) w zero P new old = old
line-set (x ∷ lines) (suc p) w (suc q) P new old = line-set lines p w q (λ n. P (suc n)) new old

open-unswept : (c : ℕ) (state : RightState) → IsOpen state → IsUnswept c state
open-unswept c On undrained = tt
open-unswept c Cleared undrained = tt
open-unswept c (Drained swept) undrained = absurd undrained

allowed-unswept : (c : ℕ) (request : Request) (right : Option Right) → OnRight (Allows request) right → OnRight (λ r. IsUnswept c r.state) right
allowed-unswept c request None allowed = absurd allowed
allowed-unswept c request (Some right) allowed = open-unswept c right.state allowed.undrained

pub fill_keeps : FillKeeps
fill_keeps tables sound process request completion at =
    let c : ℕ = line_of request.key request.index in
    let line : Line = record { key = request.key; index = request.index; cell = cell_of completion } in
    let allowed = sound.granted process request (ap granted_of at) in
    let held = sound.held process request completion at in
    let new : IsCachedIn tables c line = record { right = allowed-unswept c request _ allowed; entry = held.entry } in
    record {
      sixteen = length-set tables.lines c (Some line) ∙ sound.sixteen;
      keys = sound.keys;
      granted = sound.granted;
      held = λ q r k is.
          let h = sound.held q r k is in
          record { entry = h.entry; reaches = h.reaches; read = h.read; write = h.write };
      cached = λ q l is.
          let h = line-set tables.lines c (Some line) q (λ n v. v ≡ Some l → IsCachedIn tables n l)
          (λ same. subst (λ (x : Line). IsCachedIn tables c x) (same_Some _ _ same) new) (sound.cached q l) is in
          record { right = h.right; entry = h.entry };
    }
