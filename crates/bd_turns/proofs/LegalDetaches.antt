-- The rights that the invalidation engine takes away may be taken away there.
use Rattle.std.proofs.Common.{◌≡◌, ◌≢◌, ℕ, Bool, true, false, not, cond, List, [], ◌∷◌, Option, None, Some, refl, sym, ap, ◌∙◌, subst}
use Rattle.std.specs.Prelude.{nat_eq, position, slice_get}
use Rattle.std.specs.Option.{option_map, option_map_or}
use Rattle.std.specs.List.{list_any}
use Rattle.std.specs.FinMap as fin
use Rattle.std.proofs.lemmas.Bool.{false≢true}
use Rattle.std.proofs.lemmas.Option.{none-some, same_Some}
use Rattle.bd_base.specs.declared.journal.At.{At}
use Rattle.bd_base.specs.declared.key.Key.{Key}
use Rattle.bd_base.specs.declared.volume.Volume.{Volume}
use Rattle.bd_entry.specs.declared.entry.Entry.{Entry}
use Rattle.bd_entry.specs.declared.entry.Entry.TheVariants as entries
use Rattle.bd_entry.specs.Calls.{Place, call_at, has_cleared}
use Rattle.bd_entry.specs.Laws.{AreOfCall}
use Rattle.bd_entry.specs.NextEntries.{IsLegalAt}
use Rattle.bd_entry.specs.Refusals.{file_of}
use Rattle.bd_entry.specs.Rules.{EntryRule, FitsStore, IsOpen, NotRefused, RightFile, Rights}
use Rattle.bd_entry.specs.Store.{Descriptor, Store, descriptor_at, has_part}
use Rattle.bd_entry.proofs.CallOrder.{start_of}
use Rattle.bd_entry.proofs.HistoryLaws.{history_leads}
use Rattle.bd_entry.proofs.NextActs.{is_there, map_from, then_from}
use Rattle.bd_tables.specs.declared.state.Right.{Right}
use Rattle.bd_tables.specs.declared.state.RightState.{RightState}
use Rattle.bd_tables.specs.declared.state.RightState.TheVariants as states
use Rattle.bd_tables.specs.Effects as effects
use Rattle.bd_tables.specs.State.{TableState, engines_in}
use Rattle.bd_turns.proofs.Cases.{running_there}
use Rattle.bd_turns.proofs.ClearingCalls.{ClearsKey, cleared_there, clears_key}
use Rattle.bd_turns.proofs.LegalActs.{none_without_pieces, pieces_outstanding, unfinished_without}
use Rattle.bd_turns.proofs.RunningPlaces.{legal_is_added, runs_at}
use Rattle.bd_turns.specs.Added.{IsAdded}
use Rattle.bd_turns.specs.declared.turn.Row.TheVariants as rows
use Rattle.bd_turns.specs.declared.turn.Wait.{Wait}
use Rattle.bd_turns.specs.declared.turn.Wait.TheVariants as waits
use Rattle.bd_turns.specs.Engines as engines
use Rattle.bd_turns.specs.Engines.{Invalidation, detach, drain, invalidate, invalidation_of, sweep_or_detach}
use Rattle.bd_turns.specs.Reached.{IsReached}
use Rattle.bd_turns.specs.Sound.{is_clear_at}
use Rattle.bd_turns.specs.State.{Posted, State, outstanding, place_of, progress_of, running}
use Rattle.bd_turns.specs.Turns.{posting_place}

-- ---- what ends an invalidation

-- the entry that an invalidation ends by
abbrev ended_entry : Invalidation → Option Entry
ended_entry (engines.Ends entry tables) = Some entry
ended_entry invalidation = None

-- the right of a posted key is taken away, by this entry
pub record IsDetach (tables : TableState) (post : Posted) (e : Entry) : Type 0 where
  pub right : Right
  pub there : fin.get tables.rights post.key ≡ Some right
  pub entry : entries.Detached post.by post.key.process post.key.fd post.key.part ≡ e

drain_ends_none : (tables : TableState) (key : Key) → ended_entry (drain tables key) ≡ None
drain_ends_none tables key = by (nat_eq (engines_in tables.walks key) 0) (waits.InFlight key (engines_in tables.walks key))
  where
    by : (b : Bool) (wait : Wait) →
        ended_entry (cond b (engines.Changes rows.Drain (effects.drain tables key)) (engines.WaitsFor wait)) ≡ None
    by true wait = refl
    by false wait = refl

invalidate_ends : (tables : TableState) (post : Posted) (state : RightState) (e : Entry) (after : TableState) →
    invalidate tables post state ≡ Some (engines.Ends e after) →
    entries.Detached post.by post.key.process post.key.fd post.key.part ≡ e
invalidate_ends tables post states.On e after is = absurd (none-some (engines.Ends e after) is)
invalidate_ends tables post states.Cleared e after is =
    absurd
    (none-some e
    (sym (drain_ends_none tables post.key) ∙ ap ended_entry (same_Some (drain tables post.key) (engines.Ends e after) is)))
invalidate_ends tables post (states.Drained swept) e after is =
    by (position not swept) (ap ended_entry (same_Some (sweep_or_detach tables post swept) (engines.Ends e after) is))
  where
    by : (o : Option ℕ) →
        ended_entry (option_map_or (λ line. engines.Changes (rows.Sweep line) (effects.sweep tables line post.key)) o (detach tables post))
        ≡ Some e →
        entries.Detached post.by post.key.process post.key.fd post.key.part ≡ e
    by None same = same_Some (entries.Detached post.by post.key.process post.key.fd post.key.part) e same
    by (Some line) same = absurd (none-some e same)

pub invalidation_ends : (tables after : TableState) (posted : List Posted) (post : Posted) (e : Entry) → slice_get posted 0 ≡ Some post →
    invalidation_of tables posted ≡ Some (engines.Ends e after) → IsDetach tables post e
invalidation_ends tables after [] post e first is = absurd (none-some post first)
invalidation_ends tables after (front ∷ rest) post e first is =
    let found = then_from (λ (right : Right). invalidate tables front right.state) (fin.get tables.rights front.key) (engines.Ends e after) is in
    subst (λ (x : Posted). IsDetach tables x e) (same_Some front post first)
    (record { right = found.0; there = found.1; entry = invalidate_ends tables front found.0.state e after found.2 })

-- ---- the call that posted

-- the call that posted the key at the front is the running one of its process, and cleared the key
pub record IsPosting (m : State) (p : Place) : Type 0 where
  pub post : Posted
  pub first : slice_get m.posted 0 ≡ Some post
  pub by_is : p.at ≡ post.by
  pub running_is : running m p.at.process ≡ Some p
  pub cleared : list_any (is_clear_at post.key) p.before ≡ true

pub posting : (v : Volume) (m : State) (p : Place) → IsReached v m → posting_place m ≡ Some p → IsPosting m p
posting v m p reached is =
    let found = then_from (λ (post : Posted). option_map (place_of m post.by) (call_at m.script post.by)) (slice_get m.posted 0) p is in
    let post : Posted = found.0 in
    let called = map_from (place_of m post.by) (call_at m.script post.by) p found.2 in
    let by = reached.sound.holds_are.posted.by_running 0 post found.1 in
    let q : Place = by.0 in
    let runs = runs_at m post.by.process q by.1 in
    let call_is : q.call ≡ called.0 =
    same_Some q.call called.0 (sym runs.called ∙ ap (call_at m.script) by.2 ∙ called.1) in
    let here : q ≡ place_of m q.at q.call =
    ap (λ (before : List Entry). record { call = q.call; at = q.at; before = before }) runs.before_is in
    let there : place_of m q.at q.call ≡ place_of m post.by called.0 =
    ap (λ (at : At). place_of m at q.call) by.2 ∙ ap (place_of m post.by) call_is in
    let same : q ≡ p = here ∙ (there ∙ called.2) in
    subst (IsPosting m) same
    (record {
      post = post;
      first = found.1;
      by_is = by.2;
      running_is = running_there m post.by.process q by.1;
      cleared = by.3;
    })

-- ---- the rules

-- what the rules ask of a right that is taken away
record IsTaken (s : Store) (p : Place) (key : Key) : Type 0 where
  d : Descriptor
  is_open : descriptor_at s key.process key.fd ≡ Some d
  of_file : file_of s p ≡ Some d.file
  attached : has_part key.part d.attached ≡ true
  cleared : has_cleared key.process key.fd key.part p.before ≡ true
  some : p.before ≢ []

detach-keeps : (s : Store) (p : Place) (key : Key) → IsTaken s p key → (rule : EntryRule) →
    FitsStore s p (entries.Detached p.at key.process key.fd key.part) rule
detach-keeps s p key taken IsOpen = is_there (descriptor_at s key.process key.fd) taken.d taken.is_open
detach-keeps s p key taken RightFile = (taken.d, taken.is_open, taken.of_file)
detach-keeps s p key taken Rights = (taken.d, taken.is_open, (taken.attached, taken.cleared))
detach-keeps s p key taken NotRefused = λ none. absurd (taken.some none)
detach-keeps s p key taken rule = tt

pub detaches_add_legally : (v : Volume) (m : State) (p : Place) (tables : TableState) (e : Entry) → IsReached v m → posting_place m ≡ Some p →
    invalidation_of m.tables m.posted ≡ Some (engines.Ends e tables) → IsAdded v m p e
detaches_add_legally v m p tables e reached is ends =
    let posted = posting v m p reached is in
    let running_is = posted.running_is in
    let key : Key = posted.post.key in
    let calls = reached.sound.calls in
    let runs = runs_at m p.at.process p running_is in
    let detach = invalidation_ends m.tables tables m.posted posted.post e posted.first ends in
    let of_call : AreOfCall (start_of p.call p.at) p.before =
    subst (AreOfCall (start_of p.call p.at)) (sym runs.before_is)
    ((history_leads v m.script m.journal m.store reached.history).ordered.of_call p.at p.call runs.called) in
    let clears : ClearsKey p.call p.at.process key = clears_key (start_of p.call p.at) key p.before of_call posted.cleared in
    let none = none_without_pieces p.call (outstanding (progress_of m p.at.process)) (pieces_outstanding v m p reached running_is) clears.no_pieces in
    let told = reached.sound.tables_are.rights.told key detach.right detach.there in
    let held = calls.clears_held p.at.process p key running_is posted.cleared in
    let holder = reached.sound.holds_are.holds p.at.process held.0.file held.2 in
    let here : holder.0 ≡ p = same_Some holder.0 p (sym holder.1 ∙ running_is) in
    let of_file : file_of m.store p ≡ Some held.0.file = subst (λ (q : Place). file_of m.store q ≡ Some held.0.file) here holder.2 in
    let same : held.0 ≡ told.0 = same_Some held.0 told.0 (sym held.1 ∙ told.1) in
    let taken : IsTaken m.store p key =
    record {
      d = told.0;
      is_open = told.1;
      of_file = of_file ∙ ap (λ (d : Descriptor). Some d.file) same;
      attached = told.2.attached;
      cleared = cleared_there key p.before posted.cleared;
      some = λ empty. false≢true (sym (ap (list_any (is_clear_at key)) empty) ∙ posted.cleared);
    } in
    let legal : IsLegalAt m.store p (entries.Detached p.at key.process key.fd key.part) =
    record {
      of_place = refl;
      of_call = record { kind = clears.detaches p.at key.process key.fd key.part; fields = clears.may_clear };
      once = tt;
      keeps = detach-keeps m.store p key taken;
    } in
    legal_is_added v m p e reached running_is (unfinished_without m p calls.unended running_is none)
    (subst (IsLegalAt m.store p)
    (ap (λ (at : At). entries.Detached at key.process key.fd key.part) posted.by_is ∙ detach.entry) legal)
