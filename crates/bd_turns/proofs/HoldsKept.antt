-- Every turn keeps what is so of holds and of revocation.
use Rattle.std.proofs.Common.{◌≡◌, ℕ, false, Option, None, Some, refl, sym, ap, subst}
use Rattle.std.specs.FinMap as fin
use Rattle.bd_base.specs.declared.volume.Volume.{Volume}
use Rattle.bd_entry.specs.declared.entry.Entry.{Entry}
use Rattle.bd_entry.specs.declared.entry.Entry.TheVariants as entries
use Rattle.bd_entry.specs.Calls.{Place}
use Rattle.bd_entry.specs.Refusals.{file_of}
use Rattle.bd_tables.specs.State.{Rights}
use Rattle.bd_turns.specs.declared.turn.Row.TheVariants as rows
use Rattle.bd_turns.specs.Added.{EntriesAreNext, by_engine, by_invalidation, by_processor}
use Rattle.bd_turns.specs.Processors as processors
use Rattle.bd_turns.specs.Reached.{IsReached}
use Rattle.bd_turns.proofs.Columns.{TurnsKeepHolds}
use Rattle.bd_turns.specs.Sound.{AreHoldsSound}
use Rattle.bd_turns.specs.State.{Progress, State, progress_of}
use Rattle.bd_turns.specs.Turns.{after_adding, after_effect, after_ending, after_polling, after_posting, after_step, after_submitting, after_turn, with_entry_if_any, with_hold}
use Rattle.bd_turns.proofs.ActionsOfCalls.{ahead}
use Rattle.bd_turns.proofs.Cases.{Effective, Leads, acts, adds, changes, ends, polls, posts, stays, steps, submits, turn_leads}
use Rattle.bd_turns.proofs.EffectiveTurns as turned
use Rattle.bd_turns.proofs.EffectiveTurns.{Turned}
use Rattle.bd_turns.proofs.StepsLeave.{step_keeps}
use Rattle.bd_turns.proofs.EntriesOfCalls.{needs_hold}
use Rattle.bd_turns.proofs.HoldsAfterTurns as holding
use Rattle.bd_turns.proofs.Invalidations.{change_moves, end_detaches, posts_unposted}
use Rattle.bd_turns.proofs.PostedAfterTurns as posting
use Rattle.bd_turns.proofs.RefusalsAfterTurns as refusing
use Rattle.bd_turns.proofs.RevokedAfterTurns as revoking
use Rattle.bd_turns.proofs.RightsAfterTurns as rights
use Rattle.bd_turns.proofs.RightsAfterTurns.{Changes}
use Rattle.bd_turns.proofs.TruncationsAfterTurns as truncating

-- after a turn that is told so of calls, holds, store, rights and requests
kept_by : (v : Volume) (m next : State) (p : Place) (entry : Option Entry) (g : Progress) → IsReached v m → Turned v m next p entry g →
    Changes m next p entry → AreHoldsSound next
kept_by v m next p entry g reached t changed = record {
  posted = posting.posted_next v m next p entry g reached t changed;
  revoked = revoking.revoked_next v m next p entry g reached t changed;
  one_unposted = revoking.one_unposted_next v m next p entry g reached t changed;
  held_once = holding.held_once_next v m next p entry g reached t;
  holds = holding.holds_next v m next p entry g reached t;
  begun_holding = holding.begun_holding_next v m next p entry g reached t;
  opened = refusing.opened_next v m next p entry g reached t;
  allowed = refusing.allowed_next v m next p entry g reached t;
  truncating = truncating.truncating_next v m next p entry g reached t;
}

-- the entry that a request ends by needs no hold
detached_needs_not : (e : Entry) (by : _) (owner fd part : ℕ) → e ≡ entries.Detached by owner fd part → needs_hold e ≡ false
detached_needs_not e by owner fd part is = ap needs_hold is

-- so after each kind of effective turn
pub effective : (v : Volume) (m : State) → IsReached v m → EntriesAreNext v m → (next : State) → Effective m next → AreHoldsSound next
effective v m reached legal next (adds p row e runs acting) =
    let added = legal p e (by_processor row runs acting) in
    let g : Progress = with_hold p.call row (file_of m.store p) (progress_of m p.at.process) in
    kept_by v m (after_adding m p row e) p (Some e) g reached
    (turned.turned_adds v m reached p runs row e added acting (rights.row_is m p row e acting))
    (rights.adds_change v m (after_adding m p row e) p reached row e added acting refl refl)
effective v m reached legal next (posts p key runs acting) =
    let after : State = after_posting m p (record { key = key; by = p.at }) in
    kept_by v m after p None (with_hold p.call rows.Post (file_of m.store p) (progress_of m p.at.process)) reached
    (turned.turned_posts v m reached p runs key acting)
    (rights.posts key (ahead m p (processors.Posts key) acting refl).passes (λ other. refl) refl (posts_unposted m p key acting) refl)
effective v m reached legal next (submits p piece runs acting) =
    kept_by v m (after_submitting m p piece) p None _ reached (turned.turned_submits v m reached p runs piece acting)
    (rights.leaves (λ key. refl) refl)
effective v m reached legal next (polls p runs acting) =
    kept_by v m (after_polling m p) p None _ reached (turned.turned_polls v m reached p runs acting) (rights.leaves (λ key. refl) refl)
effective v m reached legal next (steps p step runs stepping) =
    kept_by v m (after_step m p step) p step.entry step.progress reached
    (turned.turned_steps v m reached p runs step (λ e is. legal p e (by_engine step runs stepping is)) stepping)
    (rights.leaves (λ key. ap (λ (x : Rights). fin.get x key) (step_keeps m p step stepping).0.rights) (same_posted step.entry))
  where
    same_posted : (o : Option Entry) → (with_entry_if_any m p o).posted ≡ m.posted
    same_posted None = refl
    same_posted (Some e) = refl
effective v m reached legal next (changes p row tables place changing) =
    let after : State = after_effect (record m { tables = tables }) p in
    let moved = change_moves m after p row tables reached.sound.holds_are.posted place changing refl refl in
    kept_by v m after p None (progress_of m p.at.process) reached (turned.turned_changes v m reached p moved.1 tables moved.0) moved.2
effective v m reached legal next (ends p e tables place ending) =
    let after : State = after_ending m p e tables in
    let detached = end_detaches m after p e tables reached.sound.holds_are.posted place ending refl refl in
    let post = detached.2.0 in
    kept_by v m after p (Some e) (progress_of m p.at.process) reached
    (turned.turned_ends v m reached p detached.1 e tables detached.0 (legal p e (by_invalidation tables place ending))
    (detached_needs_not e post.by post.key.process post.key.fd post.key.part detached.2.1))
    detached.3

-- and after every turn
pub holds_kept : TurnsKeepHolds
holds_kept v m actor reached legal is_actor = by (after_turn m actor) (turn_leads m actor)
  where
    by : (next : State) → Leads m next → AreHoldsSound next
    by next (stays same) = subst AreHoldsSound (sym same) reached.sound.holds_are
    by next (acts effect) = effective v m reached legal next effect
