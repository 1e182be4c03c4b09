-- What an entry breaks in the store that is kept.
use Rattle.std.proofs.Common.{◌≡◌, ℕ, true, Option, None, sym, subst}
use Rattle.bd_base.specs.declared.script.Call.{Call}
use Rattle.bd_base.proofs.Rules.{one-number}
use Rattle.bd_entry.specs.declared.entry.Entry.{Entry}
use Rattle.bd_entry.specs.declared.entry.Entry.TheVariants.{Access}
use Rattle.bd_entry.specs.Calls.{Place, at_of}
use Rattle.bd_entry.specs.Laws.{IsNextEntry}
use Rattle.bd_entry.specs.Rules.{EntryRule, FitsStore, entry_rule_number, place_in}
use Rattle.bd_entry.specs.Store.{Store}
use Rattle.bd_store.specs.Kept.{AtPlace, BreaksAt, IsBroken, Kept, Represents}
use Rattle.bd_store.specs.Kinds.{IsPieceWhereWrote}
use Rattle.bd_entry.proofs.SoundVolumes.{is_of_call}

-- an access that wrote is to a piece of its call
pub next-piece : (s : Store) (call : Call) (e : Entry) → IsNextEntry s call e → IsPieceWhereWrote call e
next-piece s call (Access at piece fd file index block range true way bytes) next =
    (piece, (is_of_call s call (Access at piece fd file index block range true way bytes) next).fields.1.piece)
next-piece s call e next = tt

-- what holds at the place of the next entry, whatever the entries are, holds in the store
pub in_store : (k : Kept) (s : Store) (call : Call) (e : Entry) (Holds : Store → Place → Type 0) → Represents k s → AtPlace k call (at_of e) Holds →
    Holds s (place_in s call (at_of e))
in_store k s call e Holds is there =
    subst (λ (t : Store). Holds t (place_in t call (at_of e))) (sym is.store) (there s.work is.marked)

-- an entry has one least broken rule
pub one_broken : (s : Store) (p : Place) (e : Entry) (number other : ℕ) → BreaksAt s p e number → BreaksAt s p e other → number ≡ other
one_broken s p e number other first second =
    let Breaks : EntryRule → Type 0 = λ rule. ¬ FitsStore s p e rule in
    one-number EntryRule entry_rule_number (FitsStore s p e) Breaks Breaks number other (λ rule broken. broken) (λ rule broken. broken) first second

-- an entry that keeps all rules breaks none
pub none_broken : (s : Store) (p : Place) (e : Entry) (number : ℕ) → ((rule : EntryRule) → FitsStore s p e rule) → BreaksAt s p e number → ⊥
none_broken s p e number keeps breaks = breaks.broken (keeps breaks.rule)

-- an entry of which no broken rule is told keeps all
pub kept_all : (k : Kept) (s : Store) (call : Call) (e : Entry) (told : Option ℕ) → Represents k s →
    AtPlace k call (at_of e) (λ s p. IsBroken s p e told) → told ≡ None → (rule : EntryRule) → FitsStore s (place_in s call (at_of e)) e rule
kept_all k s call e told is there none =
    let p : Place = place_in s call (at_of e) in
    let all : IsBroken s p e None = subst (IsBroken s p e) none (in_store k s call e (λ s p. IsBroken s p e told) is there) in
    all
