-- What always holds of plain tables holds of new ones.
use Rattle.std.proofs.Common.{◌≡◌, ℕ, zero, suc, ◌*◌, ◌≤◌, Option, None, length, cond, not, nat_eq, is_some, refl, sym, ap, ◌∙◌, subst, arith, get_or, replicate}
use Rattle.std.specs.FinMap as fin
use Rattle.std.proofs.lemmas.List.{get_or-replicate, length-replicate}
use Rattle.std.proofs.lemmas.List.Folds.{sum_by-replicate}
use Rattle.std.proofs.lemmas.Option.{none-some}
use Rattle.bd_base.specs.declared.key.Key.{Key}
use Rattle.bd_base.specs.declared.key_list.TheConstants.{MOST_KEYS}
use Rattle.bd_base.specs.declared.limits.TheConstants.{PROCESSES}
use Rattle.bd_base.specs.Keys.{key_cmp, key_of, pair_cmp}
use Rattle.bd_directory.specs.declared.directory.Entry.{Entry}
use Rattle.bd_directory.specs.Entries.{EntryList, blank}
use Rattle.bd_lines.specs.declared.lines.Line.{Line}
use Rattle.bd_lines.specs.declared.lines.TheConstants.{LINES}
use Rattle.bd_tables.specs.declared.state.Walk.{Walk}
use Rattle.bd_tables.specs.declared.state.Walk.TheVariants.{Idle, Translated}
use Rattle.bd_tables.specs.Kept.{IsKept, IsMirrored, grant_of}
use Rattle.bd_tables.specs.Plain.{new_plain, tables_of, walk_of, walks_of}
use Rattle.bd_tables.specs.Sound.{IsSound, granted_of}
use Rattle.bd_tables.specs.State.{engines_in, is_in, request_of, walk_at}
use Rattle.bd_tables.proofs.Places.{walk_at-places, walks_of-new}
use Rattle.bd_tables.proofs.Users.{users-none}

pub none_there : {X : Type 0} (n i : ℕ) → get_or (replicate {A = Option X} n None) i None ≡ None
none_there zero i = refl
none_there (suc n) zero = refl
none_there (suc n) (suc i) = none_there n i

all_idle : (n p : ℕ) → walk_at (walks_of (replicate n None)) p ≡ Idle
all_idle n p = walk_at-places (replicate n None) p ∙ ap walk_of (none_there n p)

nobody-in : (n : ℕ) (key : Key) → engines_in (walks_of (replicate n None)) key ≡ 0
nobody-in n key =
    let none : n * 0 ≡ 0 = omega arith in
    ap (λ ws. engines_in ws key) (walks_of-new n) ∙ sum_by-replicate (λ (w : Walk). cond (is_in key w) 1 0) n Idle ∙ none

new-sound : (n : ℕ) → IsSound (tables_of (new_plain n))
new-sound n = record {
  sixteen = length-replicate {A = Option Line} LINES None;
  keys = λ key right is. absurd (none-some right (sym (fin.get-empty key_cmp key) ∙ is));
  granted = λ process request is. absurd (none-some request (sym (ap granted_of (all_idle n process)) ∙ is));
  held = λ process request completion is.
      let idle : Idle ≡ Translated request completion = sym (all_idle n process) ∙ is in
      absurd (cc);
  cached = λ c line is. absurd (none-some line (sym (none_there LINES c) ∙ is));
}

pub kept-new : (n : ℕ) → n ≤ PROCESSES → (directory : EntryList) → directory ≡ replicate MOST_KEYS blank → IsKept (new_plain n) directory
kept-new n few directory is = record {
  entries = ap length is ∙ length-replicate {A = Entry} MOST_KEYS blank;
  passes = record {
    few = omega (arith, few, length-replicate {A = Option Walk} n None);
    own = λ process request there. absurd (none-some request (sym (ap request_of (all_idle n process)) ∙ there));
  };
  mirrored = λ i below.
      let here : get_or directory i blank ≡ blank = ap (λ (es : EntryList). get_or es i blank) is ∙ get_or-replicate MOST_KEYS i blank blank below in
      let new : IsMirrored fin.empty fin.empty (replicate n None) (key_of i) blank = record {
        grant = sym (ap (grant_of fin.empty (key_of i)) (fin.get-empty key_cmp (key_of i)));
        count = sym (nobody-in n (key_of i));
      } in
      subst (λ (e : Entry). IsMirrored fin.empty fin.empty (replicate n None) (key_of i) e) (sym here) new;
  in_use = λ pair. ap is_some (fin.get-empty pair_cmp pair) ∙ sym (ap (λ m. not (nat_eq m 0)) (users-none pair));
  sound = new-sound n;
}
