-- The sweeps of all lines for a key, and the whole of a revocation.
use Rattle.std.proofs.Common.{◌≡◌, ℕ, zero, suc, ◌+◌, Bool, true, cond, Option, None, Some, List, refl, sym, ap, ◌∙◌, subst, inl, inr, set, add-one}
use Rattle.std.specs.FinMap as fin
use Rattle.std.specs.FinMap.{get-remove, same_map}
use Rattle.std.specs.Option.{option_map}
use Rattle.std.proofs.lemmas.Bool.{cases_Bool, cond-true}
use Rattle.bd_base.specs.declared.key.Key.{Key}
use Rattle.bd_base.specs.Keys.{key_cmp-IsAntisymmetric, key_cmp_total, same_key, same_key-is}
use Rattle.bd_file_table.specs.Fragments.{Book}
use Rattle.bd_lines.specs.declared.lines.TheConstants.{LINES}
use Rattle.bd_tables.specs.declared.state.Right.{Right}
use Rattle.bd_tables.specs.declared.state.RightState.{RightState}
use Rattle.bd_tables.specs.declared.state.RightState.TheVariants.{Cleared, Drained}
use Rattle.bd_tables.specs.Effects.{after_detach, all_swept, change, none_swept, sweep_state}
use Rattle.bd_tables.specs.Kernel.{IsAttachedIn, IsCleared, IsDrained, IsOn, IsSweptWhole, KernelState, KeyIs, key_detached, key_in_state, line_swept}
use Rattle.bd_tables.specs.State.{Rights}
use Rattle.bd_tables.specs.Sweeps.{lines_swept}
use Rattle.bd_tables.proofs.KeptRights.{to_states}
use Rattle.bd_tables.proofs.Maps.{other_key-change, same_key-change}

-- ---- two changes of one value are one

option_map-twice : {X : Type 0} (f g : X → X) (v : Option X) → option_map g (option_map f v) ≡ option_map (λ x. g (f x)) v
option_map-twice f g None = refl
option_map-twice f g (Some x) = refl

change-twice : (rights : Rights) (key : Key) (f g : Right → Right) → change (change rights key f) key g ≡ change rights key (λ right. g (f right))
change-twice rights key f g = same_map key_cmp_total key_cmp-IsAntisymmetric _ _ (λ q. elim (cases_Bool (same_key q key)) [
  | inl same ↦
      let here = same_key-is q key same in
      ap (fin.get (change (change rights key f) key g)) here ∙ same_key-change key_cmp_total (change rights key f) key g
      ∙ ap (option_map g) (same_key-change key_cmp_total rights key f) ∙ option_map-twice f g (fin.get rights key)
      ∙ sym (ap (fin.get (change rights key (λ right. g (f right)))) here ∙ same_key-change key_cmp_total rights key (λ right. g (f right)))
  | inr differs ↦
      other_key-change key_cmp_total (change rights key f) key g q differs ∙ other_key-change key_cmp_total rights key f q differs
      ∙ sym (other_key-change key_cmp_total rights key (λ right. g (f right)) q differs)
])

pub key_in_state-twice : (kernel : KernelState) (key : Key) (s t : RightState) → key_in_state (key_in_state kernel key s) key t ≡ key_in_state kernel key t
key_in_state-twice kernel key s t =
    ap (λ (rights : Rights). record kernel { rights = rights }) (change-twice kernel.rights key (to_states (λ _. s)) (to_states (λ _. t)))

-- ---- sweeps

pub lines_swept-suc : (kernel : KernelState) (n : ℕ) (key : Key) → lines_swept kernel (n + 1) key ≡ line_swept (lines_swept kernel n key) n key
unfolding lines_swept
lines_swept-suc kernel n key = ap (λ m. lines_swept kernel m key) (add-one n)

pub lines_swept-zero : (kernel : KernelState) (key : Key) → lines_swept kernel 0 key ≡ kernel
unfolding lines_swept
lines_swept-zero kernel key = refl

sweep-drained : (c : ℕ) (right : Option Right) → IsAttachedIn IsDrained right → IsAttachedIn IsDrained (option_map (to_states (sweep_state c)) right)
sweep-drained c None is = is
sweep-drained c (Some right) is = state-drained right.state is
  where
    state-drained : (state : RightState) → IsDrained state → IsDrained (sweep_state c state)
    state-drained (Drained swept) drained = tt
    state-drained other drained = absurd drained

pub lines_swept-drained : (kernel : KernelState) (n : ℕ) (key : Key) → KeyIs IsDrained kernel key → KeyIs IsDrained (lines_swept kernel n key) key
unfolding lines_swept
lines_swept-drained kernel zero key is = is
lines_swept-drained kernel (suc n) key is =
    subst (IsAttachedIn IsDrained) (sym (same_key-change key_cmp_total (lines_swept kernel n key).rights key (to_states (sweep_state n))))
    (sweep-drained n _ (lines_swept-drained kernel n key is))

-- the lines that were swept, with the first n among them
swept_to : ℕ → List Bool → List Bool
swept_to zero swept = swept
swept_to (suc n) swept = set (swept_to n swept) n true

lines_swept-state : (kernel : KernelState) (n : ℕ) (key : Key) (swept : List Bool) →
    lines_swept (key_in_state kernel key (Drained swept)) n key ≡ key_in_state kernel key (Drained (swept_to n swept))
unfolding lines_swept swept_to
lines_swept-state kernel zero key swept = refl
lines_swept-state kernel (suc n) key swept =
    ap (λ k. line_swept k n key) (lines_swept-state kernel n key swept)
    ∙ ap (λ (rights : Rights). record kernel { rights = rights })
    (change-twice kernel.rights key (to_states (λ _. Drained (swept_to n swept))) (to_states (sweep_state n)))

all_lines : (kernel : KernelState) (key : Key) →
    lines_swept (key_in_state kernel key (Drained none_swept)) LINES key ≡ key_in_state kernel key (Drained all_swept)
unfolding swept_to
all_lines kernel key = lines_swept-state kernel LINES key none_swept

-- ---- a revocation

in_state : (right : Option Right) (P : RightState → Type 0) (state : RightState) → IsAttachedIn P right →
    IsAttachedIn (λ s. s ≡ state) (option_map (to_states (λ _. state)) right)
in_state None P state is = absurd is
in_state (Some right) P state is = refl

-- the key as it is after a drain and the sweeps of all lines
unfoldable pub swept_whole : (kernel : KernelState) (key : Key) → KernelState
swept_whole kernel key = lines_swept (key_in_state (key_in_state kernel key Cleared) key (Drained none_swept)) LINES key

swept_whole-is : (kernel : KernelState) (key : Key) → swept_whole kernel key ≡ key_in_state kernel key (Drained all_swept)
unfolding swept_whole
swept_whole-is kernel key = all_lines (key_in_state kernel key Cleared) key ∙ key_in_state-twice kernel key Cleared (Drained all_swept)

pub swept_whole-key : (kernel : KernelState) (key : Key) → KeyIs IsOn kernel key → KeyIs IsSweptWhole (swept_whole kernel key) key
swept_whole-key kernel key on =
    subst (λ k. KeyIs IsSweptWhole k key) (sym (swept_whole-is kernel key))
    (subst (IsAttachedIn IsSweptWhole) (sym (same_key-change key_cmp_total kernel.rights key (to_states (λ _. Drained all_swept))))
    (in_state (fin.get kernel.rights key) IsOn (Drained all_swept) on))

remove-change : (rights : Rights) (key : Key) (f : Right → Right) → fin.remove (change rights key f) key ≡ fin.remove rights key
remove-change rights key f = same_map key_cmp_total key_cmp-IsAntisymmetric _ _ (λ q.
    get-remove key_cmp_total (change rights key f) key q
    ∙ elim (cases_Bool (same_key q key)) as (λ _. cond (same_key q key) None (fin.get (change rights key f) q)
    ≡ cond (same_key q key) None (fin.get rights q)) [
      | inl same ↦ cond-true _ _ _ same ∙ sym (cond-true _ _ _ same)
      | inr differs ↦
          ap (cond (same_key q key) None) (other_key-change key_cmp_total rights key f q differs)
    ]
    ∙ sym (get-remove key_cmp_total rights key q))

detached_book : (rights : Rights) (key : Key) (right : Option Right) (state : RightState) (book : Book) →
    after_detach rights key (option_map (to_states (λ _. state)) right) book ≡ after_detach rights key right book
detached_book rights key None state book = refl
detached_book rights key (Some right) state book = refl

-- what is left of a key does not depend on its state
key_detached-state : (kernel : KernelState) (key : Key) (state : RightState) → key_detached (key_in_state kernel key state) key ≡ key_detached kernel key
key_detached-state kernel key state =
    let f = to_states (λ _. state) in
    let rights = remove-change kernel.rights key f in
    let book : after_detach (fin.remove (change kernel.rights key f) key) key (fin.get (change kernel.rights key f) key) kernel.book
    ≡ after_detach (fin.remove kernel.rights key) key (fin.get kernel.rights key) kernel.book =
    ap (λ (r : Rights). after_detach r key (fin.get (change kernel.rights key f) key) kernel.book) rights
    ∙ ap (λ v. after_detach (fin.remove kernel.rights key) key v kernel.book) (same_key-change key_cmp_total kernel.rights key f)
    ∙ detached_book (fin.remove kernel.rights key) key (fin.get kernel.rights key) state kernel.book in
    λ i. record { processes = kernel.processes; rights = rights i; book = book i }

pub key_detached-swept : (kernel : KernelState) (key : Key) → key_detached (swept_whole kernel key) key ≡ key_detached kernel key
key_detached-swept kernel key =
    ap (λ k. key_detached k key) (swept_whole-is kernel key) ∙ key_detached-state kernel key (Drained all_swept)

-- the same of a key that was cleared before
pub drained_whole-key : (kernel : KernelState) (key : Key) → KeyIs IsCleared kernel key →
    KeyIs IsSweptWhole (lines_swept (key_in_state kernel key (Drained none_swept)) LINES key) key
drained_whole-key kernel key cleared =
    subst (λ k. KeyIs IsSweptWhole k key) (sym (all_lines kernel key))
    (subst (IsAttachedIn IsSweptWhole) (sym (same_key-change key_cmp_total kernel.rights key (to_states (λ _. Drained all_swept))))
    (in_state (fin.get kernel.rights key) IsCleared (Drained all_swept) cleared))

pub key_detached-drained : (kernel : KernelState) (key : Key) →
    key_detached (lines_swept (key_in_state kernel key (Drained none_swept)) LINES key) key ≡ key_detached kernel key
key_detached-drained kernel key = ap (λ k. key_detached k key) (all_lines kernel key) ∙ key_detached-state kernel key (Drained all_swept)

cleared_state : (kernel : KernelState) (key : Key) (P Q : RightState → Type 0) (state : RightState) → Q state → KeyIs P kernel key →
    KeyIs Q (key_in_state kernel key state) key
cleared_state kernel key P Q state new is =
    subst (IsAttachedIn Q) (sym (same_key-change key_cmp_total kernel.rights key (to_states (λ _. state)))) (go (fin.get kernel.rights key) is)
  where
    go : (right : Option Right) → IsAttachedIn P right → IsAttachedIn Q (option_map (to_states (λ _. state)) right)
    go None is = absurd is
    go (Some right) is = new

pub on-cleared : (kernel : KernelState) (key : Key) → KeyIs IsOn kernel key → KeyIs IsCleared (key_in_state kernel key Cleared) key
on-cleared kernel key on = cleared_state kernel key IsOn IsCleared Cleared tt on

pub cleared-drained : (kernel : KernelState) (key : Key) → KeyIs IsCleared kernel key → KeyIs IsDrained (key_in_state kernel key (Drained none_swept)) key
cleared-drained kernel key cleared = cleared_state kernel key IsCleared IsDrained (Drained none_swept) tt cleared
