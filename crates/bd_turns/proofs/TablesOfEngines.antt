-- The tables and the store through each turn of an engine.
use Rattle.std.proofs.Common.{◌≡◌, ◌≢◌, ◌⊎◌, ℕ, nat_le, cond, Bool, true, false, List, set, Option, None, Some, refl, sym, ap, ◌∙◌, subst, ⊎_elim}
use Rattle.std.specs.FinMap as fin
use Rattle.std.proofs.lemmas.Bool.{false≢true}
use Rattle.std.proofs.lemmas.Option.{same_Some}
use Rattle.bd_base.specs.declared.journal.Found.{Found}
use Rattle.bd_base.specs.declared.journal.Found.TheVariants.{NoDirectory, NoEntry, Beyond}
use Rattle.bd_base.specs.declared.key.Cell.{Cell}
use Rattle.bd_base.specs.declared.key.Key.{Key}
use Rattle.bd_base.specs.declared.volume.Volume.{Volume}
use Rattle.bd_entry.specs.declared.entry.Entry.{Entry}
use Rattle.bd_entry.specs.declared.entry.Entry.TheVariants as entries
use Rattle.bd_entry.specs.Calls.{Place}
use Rattle.bd_entry.specs.Effects.{effect_of}
use Rattle.bd_entry.specs.Rules.{place_in}
use Rattle.bd_entry.specs.Store.{Valid}
use Rattle.bd_entry.proofs.DescriptorSteps.{index_or-set_cases}
use Rattle.bd_tables.specs.declared.request.Request.{Request}
use Rattle.bd_tables.specs.declared.state.Right.{Right}
use Rattle.bd_tables.specs.declared.state.RightState.{RightState}
use Rattle.bd_tables.specs.declared.state.RightState.TheVariants as states
use Rattle.bd_tables.specs.declared.state.Walk.{Walk}
use Rattle.bd_tables.specs.declared.state.Walk.TheVariants.{Idle, Entered, Refused, Translated}
use Rattle.bd_tables.specs.Effects.{after_detach, all_swept, drop_unused, entered_walk, looked_walk, none_swept, read_walk, sweep_state}
use Rattle.bd_tables.specs.Kernel.{IsAttachedIn, IsDrained, IsSweptWhole}
use Rattle.bd_tables.specs.Sound.{Allows, IsOpen, OnRight}
use Rattle.bd_tables.specs.State.{Rights, CellMap, TableState, completion_of, found_entering, found_under, pair_under, walk_at}
use Rattle.bd_tables.proofs.KernelSound.{detach_keeps, drain_keeps, sweep_keeps}
use Rattle.bd_turns.specs.Added.{IsAdded}
use Rattle.bd_turns.specs.State.{State}
use Rattle.bd_turns.proofs.AddedEntries.{added_keeps}
use Rattle.bd_turns.proofs.CellsOfFiles.{KeepsAt}
use Rattle.bd_turns.proofs.CellsOfPairs.{AreCells, KeepsFilesOf, cells_of_detach, cells_of_states, cells_of_store}
use Rattle.bd_turns.proofs.EngineSteps.{IsChange, IsEnd, drains, sweeps}
use Rattle.bd_turns.proofs.FilesOfRights.{keeps_files}
use Rattle.bd_turns.proofs.RightsFit.{AllFit}
use Rattle.bd_turns.proofs.RightsKept.{rights_after_change, rights_after_ending}
use Rattle.bd_turns.proofs.TableParts.{AreOpen, drained_marks, marks_remove, marks_states, next_line, on_removed, on_states, refused_elsewhere, swept_marks, whole_marks}
use Rattle.bd_turns.proofs.TablesOfEntries.{AreTablesOf}

-- ---- the invalidation engine

drained_at : (rights : Rights) (key : Key) (right : Right) (swept : List Bool) → fin.get rights key ≡ Some right →
    right.state ≡ states.Drained swept → (P : RightState → Type 0) → P (states.Drained swept) → IsAttachedIn P (fin.get rights key)
drained_at rights key right swept attached drained P holds =
    subst (IsAttachedIn P) (sym attached) (subst P (sym drained) holds)

still_open : (line : ℕ) (state : RightState) → IsOpen state → IsOpen (sweep_state line state)
still_open line states.On is = tt
still_open line states.Cleared is = tt
still_open line (states.Drained swept) is = absurd is

-- a drain or a sweep keeps the tables
pub tables_after_change : (m : State) (after : TableState) → IsChange m.tables m.posted after → AreTablesOf m.store m.tables → AreTablesOf m.store after
tables_after_change m after (drains post rest right posted attached cleared nobody is) are =
    let tables = m.tables in
    let key = post.key in
    subst (AreTablesOf m.store) (sym is)
    (record {
      fit =
          subst (λ (x : TableState). AllFit x.rights m.store) is
          (rights_after_change m after (drains post rest right posted attached cleared nobody is) are.fit);
      cells = cells_of_states tables.rights tables.cells m.store key (λ r. record r { state = states.Drained none_swept }) (λ r. refl) are.cells;
      marks = marks_states tables.rights key (λ state. states.Drained none_swept) (λ r swept there same. drained_marks swept same) are.marks;
      sound = drain_keeps tables are.sound key nobody;
      open_keys = λ process request found refused other.
          on_states tables.rights key (λ state. states.Drained none_swept) request.key IsOpen (are.open_keys process request found refused other)
          (λ r there same was. absurd (refused_elsewhere key tables.walks process request found nobody refused same));
    })
tables_after_change m after (sweeps post rest right swept line posted attached drained next is) are =
    let tables = m.tables in
    let key = post.key in
    subst (AreTablesOf m.store) (sym is)
    (record {
      fit = subst (λ (x : TableState). AllFit x.rights m.store) is
          (rights_after_change m after (sweeps post rest right swept line posted attached drained next is) are.fit);
      cells = cells_of_states tables.rights tables.cells m.store key (λ r. record r { state = sweep_state line r.state }) (λ r. refl) are.cells;
      marks = marks_states tables.rights key (sweep_state line) (swept_marks tables.rights key line are.marks) are.marks;
      sound =
          sweep_keeps tables are.sound line key (next_line swept line (are.marks key right swept attached drained) next)
          (drained_at tables.rights key right swept attached drained IsDrained tt);
      open_keys = λ process request found refused other.
          on_states tables.rights key (sweep_state line) request.key IsOpen (are.open_keys process request found refused other)
          (λ r there same was. still_open line r.state was);
    })

-- a detach keeps them, with the entry that tells of it
pub tables_after_ending : (v : Volume) (m : State) (p : Place) (e : Entry) (after : TableState) → IsAdded v m p e →
    IsEnd m.tables m.posted e after → Valid m.store → AreTablesOf m.store m.tables →
    AreTablesOf (effect_of m.store (place_in m.store p.call p.at) e) after
tables_after_ending v m p e after added ends valid are =
    let tables = m.tables in
    let s = m.store in
    let place = place_in s p.call p.at in
    let t = effect_of s place e in
    let key = ends.post.key in
    let entry = entries.Detached ends.post.by key.process key.fd key.part in
    let whole : ends.swept ≡ all_swept = whole_marks ends.swept (are.marks key ends.right ends.swept ends.attached ends.drained) ends.whole in
    let drained : ends.right.state ≡ states.Drained all_swept = ends.drained ∙ ap states.Drained whole in
    let files = keeps_files tables.rights s p place entry valid are.fit
    (subst (KeepsAt s p) ends.entry_is (added_keeps v m p e added)) tt (λ q right is. tt) in
    let files_e = subst (λ (x : Entry). KeepsFilesOf tables.rights s (effect_of s place x)) (sym ends.entry_is) files in
    let rights : Rights = fin.remove tables.rights key in
    let cells = cells_of_detach tables.rights tables.cells t key ends.right ends.attached (λ q right is. are.sound.keys q right is)
    (cells_of_store tables.rights tables.cells s t files_e are.cells) in
    let cells_is : after_detach rights key (fin.get tables.rights key) tables.cells ≡ drop_unused rights (pair_under key ends.right) tables.cells =
    ap (λ (r : Option Right). after_detach rights key r tables.cells) ends.attached in
    subst (AreTablesOf t) (sym ends.after_is)
    (record {
      fit = subst (λ (x : TableState). AllFit x.rights t) ends.after_is (rights_after_ending m place e after ends are.fit);
      cells = subst (λ (c : CellMap). AreCells rights c t) (sym cells_is) cells;
      marks = marks_remove tables.rights key are.marks;
      sound =
          detach_keeps tables are.sound key (drained_at tables.rights key ends.right all_swept ends.attached drained IsSweptWhole refl);
      open_keys = λ process request found refused other.
          on_removed tables.rights key request.key (λ right. IsOpen right.state) (are.open_keys process request found refused other)
          (λ on. subst (λ (r : Option Right). OnRight (λ right. IsOpen right.state) r → ⊥) (sym ends.attached)
          (λ is. subst IsOpen drained is) on);
    })

-- ---- the walks of the device engines

-- where the engine of a process is, as the walk of one is set
pub walk_cases : (all : List Walk) (process : ℕ) (walk : Walk) (q : ℕ) →
    (walk_at (set all process walk) q ≡ walk_at all q) ⊎ ((q ≡ process) × (walk_at (set all process walk) q ≡ walk))
walk_cases all process walk q = index_or-set_cases all process walk q Idle

-- a walk that is not refused where the right is not open
abbrev pub RefusedOpen : Rights → Walk → Type 0
RefusedOpen rights walk = (request : Request) (found : Found) → walk ≡ Refused request found → found ≢ NoDirectory →
    OnRight (λ right. IsOpen right.state) (fin.get rights request.key)

pub open_with_walk : (rights : Rights) (all : List Walk) (process : ℕ) (walk : Walk) → RefusedOpen rights walk → AreOpen rights all →
    AreOpen rights (set all process walk)
open_with_walk rights all process walk new old q request found is other =
    ⊎_elim
    (λ same. old q request found (sym same ∙ is) other)
    (λ here. new request found (sym here.1 ∙ is) other)
    (walk_cases all process walk q)

-- the request and the finding of a refused walk
request_in : Walk → Request → Request
request_in Idle none = none
request_in (Entered request) none = none
request_in (Refused request found) none = request
request_in (Translated request completion) none = none

found_in : Walk → Found → Found
found_in Idle none = none
found_in (Entered request) none = none
found_in (Refused request found) none = found
found_in (Translated request completion) none = none

abbrev pub is_refused : Walk → Bool
is_refused Idle = false
is_refused (Entered request) = false
is_refused (Refused request found) = true
is_refused (Translated request completion) = false

pub same_request : (a b : Request) (f g : Found) → Refused a f ≡ Refused b g → a ≡ b
unfolding request_in
same_request a b f g is = ap (λ (w : Walk). request_in w a) is

pub same_found : (a b : Request) (f g : Found) → Refused a f ≡ Refused b g → f ≡ g
unfolding found_in
same_found a b f g is = ap (λ (w : Walk). found_in w f) is

pub never_refused : (rights : Rights) (walk : Walk) → is_refused walk ≡ false → RefusedOpen rights walk
never_refused rights walk none request found is other = absurd (false≢true (sym none ∙ ap is_refused is))

-- a refused walk for a request is open where the right of the request is
refused_open : (rights : Rights) (request : Request) (found : Found) →
    (found ≢ NoDirectory → OnRight (λ right. IsOpen right.state) (fin.get rights request.key)) → RefusedOpen rights (Refused request found)
refused_open rights request found holds other finding is differs =
    subst (λ (r : Request). OnRight (λ right. IsOpen right.state) (fin.get rights r.key)) (same_request request other found finding is)
    (holds (λ none. differs (sym (same_found request other found finding is) ∙ none)))

-- who enters is refused in an open key, or finds no directory
pub entered_open : (rights : Rights) (request : Request) →
    RefusedOpen rights (entered_walk request (found_entering (fin.get rights request.key) request.write))
entered_open rights request = by (fin.get rights request.key) refl
  where
    under : (right : Right) → fin.get rights request.key ≡ Some right → (state : RightState) → right.state ≡ state → (found : Option Found) →
        found_under state right.write request.write ≡ found → RefusedOpen rights (entered_walk request found)
    under right is state state_is None found = never_refused rights (Entered request) refl
    under right is states.On state_is (Some finding) found =
        refused_open rights request finding (λ other. subst (OnRight (λ r. IsOpen r.state)) (sym is) (subst IsOpen (sym state_is) tt))
    under right is states.Cleared state_is (Some finding) found =
        refused_open rights request finding (λ other. absurd (other (sym (same_Some NoDirectory finding found))))
    under right is (states.Drained swept) state_is (Some finding) found =
        refused_open rights request finding (λ other. absurd (other (sym (same_Some NoDirectory finding found))))

    by : (r : Option Right) → fin.get rights request.key ≡ r → RefusedOpen rights (entered_walk request (found_entering r request.write))
    by None none = refused_open rights request NoDirectory (λ other. absurd (other refl))
    by (Some right) is = under right is right.state refl (found_under right.state right.write request.write) refl

pub looked_open : (rights : Rights) (request : Request) (cell : Option Cell) → RefusedOpen rights (looked_walk request cell)
looked_open rights request None = never_refused rights (Entered request) refl
looked_open rights request (Some cell) = never_refused rights (looked_walk request (Some cell)) refl

-- who reads an entry is in an open key
pub read_open : (rights : Rights) (request : Request) (cell : Option Cell) → OnRight (Allows request) (fin.get rights request.key) →
    RefusedOpen rights (read_walk request cell)
read_open rights request cell allowed = by cell
  where
    open_right : (r : Option Right) → OnRight (Allows request) r → OnRight (λ right. IsOpen right.state) r
    open_right None on = on
    open_right (Some right) on = on.undrained

    on : OnRight (λ right. IsOpen right.state) (fin.get rights request.key)
    on = open_right (fin.get rights request.key) allowed

    reaching : (c : Cell) (b : Bool) → RefusedOpen rights (cond b (Translated request (completion_of request c)) (Refused request (Beyond c.limit)))
    reaching c true = never_refused rights (Translated request (completion_of request c)) refl
    reaching c false = refused_open rights request (Beyond c.limit) (λ other. on)

    by : (c : Option Cell) → RefusedOpen rights (read_walk request c)
    by None = refused_open rights request NoEntry (λ other. on)
    by (Some c) = reaching c (nat_le request.hi c.limit)
