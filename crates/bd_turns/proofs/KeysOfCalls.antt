-- The keys that a call has to revoke: they are of its file, and those of the rights on it that it may clear are among them.
use Rattle.std.proofs.Common.{◌≡◌, ℕ, ◌<◌, Bool, true, false, ◌&&◌, cond, List, [], ◌∷◌, filter, Option, None, Some, refl, sym, ap, ◌∙◌}
use Rattle.std.specs.Prelude.{nat_eq, nat_lt}
use Rattle.std.specs.Option.{option_and_then, option_map, option_map_or}
use Rattle.std.specs.List.{find}
use Rattle.std.proofs.lemmas.Bool.{and_from, and_parts, eq-eqb, eqb-true, false≢true, lt-ltb}
use Rattle.std.proofs.lemmas.Option.{none-some}
use Rattle.bd_base.specs.declared.key.Key.{Key}
use Rattle.bd_base.specs.declared.script.Call.{Call}
use Rattle.bd_base.specs.declared.script.Call.TheVariants.{Enter, Truncate, Close}
use Rattle.bd_base.specs.declared.script.How.TheVariants as hows
use Rattle.bd_entry.specs.declared.entry.Entry.TheVariants as entries
use Rattle.bd_entry.specs.Actions.{keys_by, keys_on, keys_to_revoke, keys_where}
use Rattle.bd_entry.specs.Calls.{Place, fd_of_call, is_made_by}
use Rattle.bd_entry.specs.Refusals.{file_of, file_of_call}
use Rattle.bd_entry.specs.RulesOfCalls.{MayClear}
use Rattle.bd_entry.specs.Store.{Descriptor, Store, descriptor_at, has_part, size_in}
use Rattle.bd_turns.specs.Turns.{holds_throughout}
use Rattle.bd_turns.proofs.EntriesOfCalls.{ClearsKey}
use Rattle.bd_turns.proofs.RightsOnFiles.{find-none, find-passes, key_among, key_found}

-- ---- what is found in a filtered list

find-filter : {X : Type 0} (check keep : X → Bool) (xs : List X) → find check (filter keep xs) ≡ find (λ x. keep x && check x) xs
find-filter check keep [] = refl
find-filter check keep (x ∷ xs) = by (keep x) (find-filter check keep xs)
  where
    by : (b : Bool) → find check (filter keep xs) ≡ find (λ x. keep x && check x) xs →
        find check (cond b (x ∷ filter keep xs) (filter keep xs)) ≡ cond (b && check x) (Some x) (find (λ x. keep x && check x) xs)
    by true rest = ap (cond (check x) (Some x)) rest
    by false rest = rest

-- ---- a key that is found

-- the key is that of an attached right on the file of the call
pub record IsKeyOf (s : Store) (p : Place) (key : Key) : Type 0 where
  pub d : Descriptor
  pub is : descriptor_at s key.process key.fd ≡ Some d
  pub attached : has_part key.part d.attached ≡ true
  pub of_file : file_of s p ≡ Some d.file
  pub through : holds_throughout p.call ≡ true

on_file : (s : Store) (p : Place) (check : Key → Bool) (key : Key) (file : ℕ) → holds_throughout p.call ≡ true → file_of s p ≡ Some file →
    find check (keys_on s file) ≡ Some key → IsKeyOf s p key
on_file s p check key file through of found =
    let there = key_found (λ d. nat_eq d.file file) s check key found in
    record {
      d = there.d;
      is = there.is;
      attached = there.attached;
      of_file = of ∙ ap Some (sym (eqb-true there.d.file file there.passes));
      through = through;
    }

-- whichever key is found among those that a call has to revoke
pub key_of_call : (s : Store) (p : Place) (check : Key → Bool) (key : Key) → find check (keys_to_revoke s p p.call) ≡ Some key → IsKeyOf s p key
key_of_call s p check key found = by p.call refl found
  where
    nothing : (xs : List Key) → xs ≡ [] → find check xs ≡ Some key → IsKeyOf s p key
    nothing xs none found = absurd (none-some key (sym (ap (find check) none) ∙ found))

    opening : (of : Option ℕ) → file_of s p ≡ of → holds_throughout p.call ≡ true → find check (option_map_or (keys_on s) of []) ≡ Some key → IsKeyOf s p key
    opening None of through found = absurd (none-some key found)
    opening (Some file) of through found = on_file s p check key file through of found

    lowering : (size : ℕ) (of : Option ℕ) → file_of s p ≡ of → holds_throughout p.call ≡ true →
        find check (option_map_or (λ file. cond (nat_lt size (size_in s file)) (keys_on s file) []) of []) ≡ Some key → IsKeyOf s p key
    lowering size None of through found = absurd (none-some key found)
    lowering size (Some file) of through found = lower (nat_lt size (size_in s file)) found
      where
        lower : (b : Bool) → find check (cond b (keys_on s file) []) ≡ Some key → IsKeyOf s p key
        lower true found = on_file s p check key file through of found
        lower false found = absurd (none-some key found)

    closing : (fd : ℕ) → p.call ≡ Close fd → find check (keys_by s p.at.process fd) ≡ Some key → IsKeyOf s p key
    closing fd call found =
        let keep : Key → Bool = λ key. nat_eq key.process p.at.process && nat_eq key.fd fd in
        let both : find (λ k. keep k && check k) (keys_where (λ d. true) s) ≡ Some key = sym (find-filter check keep (keys_where (λ d. true) s)) ∙ found in
        let there = key_found (λ d. true) s (λ k. keep k && check k) key both in
        let passes = find-passes (λ k. keep k && check k) (keys_where (λ d. true) s) key both in
        let kept = and_parts (nat_eq key.process p.at.process) (nat_eq key.fd fd) (and_parts (keep key) (check key) passes).0 in
        let same : descriptor_at s p.at.process fd ≡ Some there.d =
        ap (λ (k : ℕ). descriptor_at s k fd) (sym (eqb-true key.process p.at.process kept.0))
        ∙ ap (descriptor_at s key.process) (sym (eqb-true key.fd fd kept.1)) ∙ there.is in
        record {
          d = there.d;
          is = there.is;
          attached = there.attached;
          of_file =
              ap (λ (c : Call). file_of_call s c (option_and_then (descriptor_at s p.at.process) (fd_of_call c p.before))) call
              ∙ ap (option_map (λ (d : Descriptor). d.file)) same;
          through = ap holds_throughout call;
        }

    by : (call : Call) → p.call ≡ call → find check (keys_to_revoke s p call) ≡ Some key → IsKeyOf s p key
    by (Enter name mode hows.Plain) call found = opening (file_of s p) refl (ap holds_throughout call) found
    by (Enter name mode hows.Direct) call found = absurd (none-some key found)
    by (Truncate fd size) call found = lowering size (file_of s p) refl (ap holds_throughout call) found
    by (Close fd) call found = closing fd call found
    by other call found = absurd (none-some key found)

-- ---- keys that are among them

-- no key of a right on the file that the call may clear passes a test that none of its keys passes
pub none_of_call : (s : Store) (p : Place) (check : Key → Bool) (key : Key) (d : Descriptor) → find check (keys_to_revoke s p p.call) ≡ None →
    descriptor_at s key.process key.fd ≡ Some d → has_part key.part d.attached ≡ true → file_of s p ≡ Some d.file →
    ClearsKey p.call p.at.process key → ((fd size : ℕ) → p.call ≡ Truncate fd size → size < size_in s d.file) → check key ≡ false
none_of_call s p check key d none is attached of clears lowers = by p.call refl none clears.made clears.may
  where
    on_its_file : find check (keys_on s d.file) ≡ None → check key ≡ false
    on_its_file none =
        key_among (λ x. nat_eq x.file d.file) s check key (find-none check (keys_on s d.file) none)
        (record { d = d; is = is; passes = eq-eqb d.file d.file refl; attached = attached })

    by : (call : Call) → p.call ≡ call → find check (keys_to_revoke s p call) ≡ None →
        is_made_by call (entries.Cleared clears.at key.process key.fd key.part) ≡ true → MayClear call p.at.process key.process key.fd → check key ≡ false
    by (Enter name mode hows.Plain) call none made may =
        on_its_file (sym (ap (λ (o : Option ℕ). find check (option_map_or (keys_on s) o [])) of) ∙ none)
    by (Truncate fd size) call none made may =
        on_its_file
        (sym
        (ap (λ (o : Option ℕ). find check (option_map_or (λ file. cond (nat_lt size (size_in s file)) (keys_on s file) []) o [])) of
        ∙ ap (λ (b : Bool). find check (cond b (keys_on s d.file) [])) (lt-ltb size (size_in s d.file) (lowers fd size call)))
        ∙ none)
    by (Close fd) call none made may =
        let keep : Key → Bool = λ key. nat_eq key.process p.at.process && nat_eq key.fd fd in
        let kept : keep key ≡ true =
        and_from (nat_eq key.process p.at.process) (nat_eq key.fd fd) (eq-eqb key.process p.at.process may.0) (eq-eqb key.fd fd may.1) in
        let fails : (keep key && check key) ≡ false =
        key_among (λ x. true) s (λ k. keep k && check k) key
        (find-none (λ k. keep k && check k) (keys_where (λ x. true) s) (sym (find-filter check keep (keys_where (λ x. true) s)) ∙ none))
        (record { d = d; is = is; passes = refl; attached = attached }) in
        ap (λ (b : Bool). b && check key) (sym kept) ∙ fails
    by (Enter name mode hows.Direct) call none made may = absurd (false≢true made)
    by other call none made may = absurd (false≢true made)
