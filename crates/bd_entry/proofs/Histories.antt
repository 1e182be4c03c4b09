-- Journals that grow by one entry at their end.
use Rattle.std.proofs.Common.{◌≡◌, List, [], ◌∷◌, ◌++◌, Some, refl, sym, subst, append_assoc}
use Rattle.std.proofs.lemmas.List.{append-nil}
use Rattle.bd_base.specs.declared.script.Call.{Call}
use Rattle.bd_base.specs.declared.script.Script.{Script}
use Rattle.bd_entry.specs.declared.entry.Entry.{Entry}
use Rattle.bd_entry.specs.Calls.{at_of, call_at}
use Rattle.bd_base.specs.declared.volume.Volume.{Volume}
use Rattle.bd_entry.specs.Effects.{effect_of}
use Rattle.bd_entry.specs.History.{InOrderFrom, InOrderSoFar, Legal, Step}
use Rattle.bd_entry.specs.Laws.{IsHistory, IsNextOf}
use Rattle.bd_entry.specs.Rules.{EntryRule, FitsScript, place_in}
use Rattle.bd_entry.specs.Store.{Store, start_store}

-- a legal journal with one more step is legal
pub Legal-push : (script : Script) (s : Store) (journal : List Entry) (t : Store) (call : Call) (e : Entry) (u : Store) →
    Legal script s journal t → call_at script (at_of e) ≡ Some call → Step t (place_in t call (at_of e)) e u → Legal script s (journal ++ e ∷ []) u
Legal-push script s [] t call e u same called step =
    (call, u, called, subst (λ (x : Store). Step x (place_in x call (at_of e)) e u) (sym same) step, refl)
Legal-push script s (first ∷ journal) t call e u legal called step =
    (legal.0, legal.1, legal.2, legal.3, Legal-push script legal.1 journal t call e u legal.4 called step)

-- a journal in order with one more entry that fits is in order
pub InOrderFrom-push : (script : Script) (before journal : List Entry) (e : Entry) → InOrderFrom script before journal →
    ((rule : EntryRule) → FitsScript script (before ++ journal) e rule) → InOrderFrom script before (journal ++ e ∷ [])
InOrderFrom-push script before [] e order fits =
    (subst (λ (front : List Entry). (rule : EntryRule) → FitsScript script front e rule) (append-nil before) fits, tt)
InOrderFrom-push script before (first ∷ journal) e order fits = (
  order.0,
  InOrderFrom-push script (before ++ first ∷ []) journal e order.1
      (subst (λ (front : List Entry). (rule : EntryRule) → FitsScript script front e rule) (sym (append_assoc before (first ∷ []) journal)) fits),
)

-- ---- what holds at the start and stays so by each entry holds at the end

-- of journals in order
order_holds_from : (script : Script) (P : List Entry → Type 0) →
    ((before : List Entry) (e : Entry) → ((rule : EntryRule) → FitsScript script before e rule) → P before → P (before ++ e ∷ [])) →
    (before journal : List Entry) → P before → InOrderFrom script before journal → P (before ++ journal)
order_holds_from script P push before [] holds order = subst P (sym (append-nil before)) holds
order_holds_from script P push before (e ∷ journal) holds order =
    subst P (append_assoc before (e ∷ []) journal)
    (order_holds_from script P push (before ++ e ∷ []) journal (push before e order.0 holds) order.1)

pub order_holds : (script : Script) (P : List Entry → Type 0) → P [] →
    ((before : List Entry) (e : Entry) → ((rule : EntryRule) → FitsScript script before e rule) → P before → P (before ++ e ∷ [])) →
    (journal : List Entry) → InOrderSoFar script journal → P journal
order_holds script P start push journal order = order_holds_from script P push [] journal start order

-- one more entry of a history
pub history-push : (v : Volume) (script : Script) (before : List Entry) (s : Store) (call : Call) (e : Entry) → IsNextOf v script before s call e →
    IsHistory v script (before ++ e ∷ []) (effect_of s (place_in s call (at_of e)) e)
history-push v script before s call e next = record {
  sound = next.history.sound;
  limits = next.history.limits;
  legal = Legal-push script (start_store v script) before s call e (effect_of s (place_in s call (at_of e)) e) next.history.legal next.call_is
      (record { keeps = next.keeps; after = refl });
  in_order = InOrderFrom-push script [] before e next.history.in_order next.fits;
}

-- of legal journals in order, from a sound volume and a script within the limits
history_holds_from : (v : Volume) (script : Script) (P : List Entry → Store → Type 0) →
    ((before : List Entry) (s : Store) (call : Call) (e : Entry) → IsNextOf v script before s call e → P before s →
    P (before ++ e ∷ []) (effect_of s (place_in s call (at_of e)) e)) →
    (before journal : List Entry) (s t : Store) → IsHistory v script before s → P before s → Legal script s journal t →
    InOrderFrom script before journal → P (before ++ journal) t
history_holds_from v script P push before [] s t history holds legal order =
    subst (P (before ++ [])) legal (subst (λ (front : List Entry). P front s) (sym (append-nil before)) holds)
history_holds_from v script P push before (e ∷ journal) s t history holds legal order =
    let call = legal.0 in
    let after = effect_of s (place_in s call (at_of e)) e in
    let next : IsNextOf v script before s call e = record { history = history; call_is = legal.2; fits = order.0; keeps = legal.3.keeps } in
    subst (λ (all : List Entry). P all t) (append_assoc before (e ∷ []) journal)
    (history_holds_from v script P push (before ++ e ∷ []) journal after t (history-push v script before s call e next)
    (push before s call e next holds) (subst (λ (x : Store). Legal script x journal t) legal.3.after legal.4) order.1)

pub history_holds : (v : Volume) (script : Script) (P : List Entry → Store → Type 0) → P [] (start_store v script) →
    ((before : List Entry) (s : Store) (call : Call) (e : Entry) → IsNextOf v script before s call e → P before s →
    P (before ++ e ∷ []) (effect_of s (place_in s call (at_of e)) e)) →
    (journal : List Entry) (s : Store) → IsHistory v script journal s → P journal s
history_holds v script P start push journal s history =
    let nothing : IsHistory v script [] (start_store v script) =
    record { sound = history.sound; limits = history.limits; legal = refl; in_order = tt } in
    history_holds_from v script P push [] journal (start_store v script) s nothing start history.legal history.in_order
