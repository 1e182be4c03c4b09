-- A running call that waits for nobody has a next action, and that has an effect.
use Rattle.std.proofs.Common.{◌≡◌, ℕ, Bool, true, false, cond, List, [], ◌∷◌, Option, None, Some, refl, sym, ap, ◌∙◌}
use Rattle.std.specs.Option.{option_or}
use Rattle.std.proofs.lemmas.Bool.{false≢true}
use Rattle.bd_base.specs.declared.key.Key.{Key}
use Rattle.bd_base.specs.declared.reason.Reason.{Reason}
use Rattle.bd_entry.specs.declared.act.Act.{Act}
use Rattle.bd_entry.specs.declared.act.Act.TheVariants as acts
use Rattle.bd_entry.specs.declared.entry.Entry.{Entry}
use Rattle.bd_entry.specs.declared.entry.Entry.TheVariants as entries
use Rattle.bd_entry.specs.Actions.{Holders, Running, before_beginning, busy, busy_at_first, comes_before_holder, entry_of_act, has_begun, is_none_of, keys_to_revoke, next_act, own_act, revoke, tests_for_holder}
use Rattle.bd_entry.specs.Calls.{Place}
use Rattle.bd_entry.specs.Refusals.{first_refusal}
use Rattle.bd_entry.specs.Store.{Store}

-- ---- actions with an effect

-- the action has an effect: it adds an entry, revokes rights, submits a command, or takes the completion of one that is
-- outstanding
pub data IsDoable (s : Store) (r : Running) : Act → Type 0 where
  adds : (act : Act) (e : Entry) → entry_of_act s r.place act ≡ Some e → IsDoable s r act
  revokes : (key : Key) (keys : List Key) → IsDoable s r (acts.Revoke (key ∷ keys))
  submits : (piece : ℕ) → IsDoable s r (acts.Submit piece)
  polls : is_none_of r.outstanding ≡ false → IsDoable s r acts.Poll

-- there is an action, and it has an effect
abbrev pub IsDone : Store → Running → Option Act → Type 0
IsDone s r slot = (act : Act) × (slot ≡ Some act) × IsDoable s r act

abbrev pub HasOwn : Store → Holders → Running → Type 0
HasOwn s holders r = IsDone s r (own_act s holders r r.place.call)

-- ---- before the call's own action

-- where a call does its own action it may, and has nothing to revoke
module _ (s : Store) (holders : Holders) (r : Running) (free : busy s holders r.place ≡ None) where
  abbrev p : Place
  p = r.place

  free_at_first : busy_at_first s holders p ≡ None
  free_at_first = by (tests_for_holder p.call)
    where
      by : (b : Bool) → cond b (busy s holders p) None ≡ None
      by true = free
      by false = refl

  refuses : (reason : Reason) → before_beginning s holders p (Some reason) ≡ Some (acts.Refuse None reason)
  refuses reason = by (comes_before_holder reason)
    where
      refused : Option Act
      refused = Some (acts.Refuse None reason)

      by : (b : Bool) → cond b (Some (acts.Refuse None reason)) (option_or (busy_at_first s holders p) (Some (acts.Refuse None reason)))
          ≡ Some (acts.Refuse None reason)
      by true = refl
      by false = ap (λ (o : Option Act). option_or o (Some (acts.Refuse None reason))) free_at_first

  after_keys : (keys : List Key) (own : Option Act) → (keys ≡ [] → IsDone s r own) → IsDone s r (option_or (revoke keys) own)
  after_keys [] own done = done refl
  after_keys (key ∷ keys) own done = (acts.Revoke (key ∷ keys), refl, revokes key keys)

  after_first : (first later : Option Act) → first ≡ None → IsDone s r later → IsDone s r (option_or first later)
  after_first first later none done = (done.0, ap (λ (o : Option Act). option_or o later) none ∙ done.1, done.2)

  pub next_from_own : ((has_begun r ≡ false → first_refusal s p.at.process p.call ≡ None) → keys_to_revoke s p p.call ≡ [] → HasOwn s holders r) →
      IsDone s r (next_act s holders r)
  next_from_own own = by (has_begun r) refl (first_refusal s p.at.process p.call) refl
    where
      later : (has_begun r ≡ false → first_refusal s p.at.process p.call ≡ None) →
          IsDone s r (option_or (revoke (keys_to_revoke s p p.call)) (own_act s holders r p.call))
      later allowed = after_keys (keys_to_revoke s p p.call) (own_act s holders r p.call) (own allowed)

      by : (b : Bool) → has_begun r ≡ b → (o : Option Reason) → first_refusal s p.at.process p.call ≡ o →
          IsDone s r
          (option_or (cond b None (before_beginning s holders p o)) (option_or (revoke (keys_to_revoke s p p.call)) (own_act s holders r p.call)))
      by true begun o is = later (λ new. absurd (false≢true (sym new ∙ begun)))
      by false begun None is =
          after_first (before_beginning s holders p None) _ free_at_first (later (λ new. is))
      by false begun (Some reason) is = (
        acts.Refuse None reason,
        ap
            (λ (o : Option Act). option_or o (option_or (revoke (keys_to_revoke s p p.call)) (own_act s holders r p.call)))
            (refuses reason),
        adds (acts.Refuse None reason) (entries.Refused p.at None reason) refl,
      )
