-- The entries of one call: the descriptor by which it attaches rights, and how a call that does so ends.
use Rattle.std.proofs.Common.{◌≡◌, ℕ, Bool, true, false, List, [], ◌∷◌, ◌++◌, Option, None, Some, refl, sym, ap, ◌∙◌, subst, append_assoc, ⊎_elim}
use Rattle.std.specs.Prelude.{IfSome, is_some, not}
use Rattle.std.specs.Option.{option_and_then, option_map, option_map_or, option_or}
use Rattle.std.specs.List.{list_any}
use Rattle.std.proofs.lemmas.Bool.{both_ways, eqb-true, false≢true, or_cases}
use Rattle.std.proofs.lemmas.List.{append-nil}
use Rattle.std.proofs.lemmas.List.Folds.{list_any-append}
use Rattle.std.proofs.lemmas.Option.{MatchOption-at_some, none-some}
use Rattle.bd_base.specs.declared.reason.Reason.{Reason}
use Rattle.bd_base.specs.declared.reason.Reason.TheVariants.{BadFd, Denied, FdsFull, KernelOpen, NoFile}
use Rattle.bd_base.specs.declared.script.Call.{Call}
use Rattle.bd_base.specs.declared.script.Call.TheVariants.{Enter, Map}
use Rattle.bd_base.specs.declared.script.How.TheVariants.{Direct}
use Rattle.bd_base.specs.declared.script.Mode.{Mode}
use Rattle.bd_base.specs.declared.journal.At.{At}
use Rattle.bd_base.specs.declared.volume.Inode.{Inode}
use Rattle.bd_base.specs.Inodes.{id_of}
use Rattle.bd_base.specs.Policy.{open_denial}
use Rattle.bd_entry.specs.declared.entry.Entry.{Entry}
use Rattle.bd_entry.specs.declared.entry.Entry.TheVariants.{Attached, Mapped, Opened, Refused}
use Rattle.bd_entry.specs.Calls.{Place, fd_of_call, is_end_of, is_ended_by, is_made_by, opened_fd}
use Rattle.bd_entry.specs.Effects.{tells_size}
use Rattle.bd_entry.specs.Laws.{AreOfCall}
use Rattle.bd_entry.specs.Refusals.{denial, first_refusal, map_refusal, open_refusal, reason_if, refusal_of}
use Rattle.bd_entry.specs.RulesOfCalls.{HasFieldsOf}
use Rattle.bd_entry.specs.RulesOfContents.{HasRightReason, IsOfGrowth}
use Rattle.bd_entry.specs.Store.{Descriptor, Holder, Store, attaches_by, descriptor_at, file_in, first_plain, lowest_fd, user_of}

-- entries of a call in two parts
pub AreOfCall-parts : (p : Place) (front back : List Entry) → AreOfCall p (front ++ back) →
    AreOfCall p front × AreOfCall (record p { before = p.before ++ front }) back
AreOfCall-parts p [] back all = (tt, subst (λ (first : List Entry). AreOfCall (record p { before = first }) back) (sym (append-nil p.before)) all)
AreOfCall-parts p (e ∷ front) back all =
    let rest = AreOfCall-parts (record p { before = p.before ++ e ∷ [] }) front back all.2 in
    ((all.0, all.1, rest.0), subst (λ (first : List Entry). AreOfCall (record p { before = first }) back) (append_assoc p.before (e ∷ []) front) rest.1)

-- ---- the descriptor by which a call attaches

opened_stays : (entries more : List Entry) (fd : ℕ) → opened_fd entries ≡ Some fd → opened_fd (entries ++ more) ≡ Some fd
opened_stays [] more fd e = absurd (none-some fd e)
opened_stays (Opened at file by mode how ∷ entries) more fd e = e
opened_stays (entry ∷ entries) more fd e = opened_stays entries more fd e

-- the descriptor of a call stays the same as it goes on
pub fd_of_call-append : (call : Call) (entries more : List Entry) (fd : ℕ) → fd_of_call call entries ≡ Some fd →
    fd_of_call call (entries ++ more) ≡ Some fd
fd_of_call-append (Enter name mode how) entries more fd e = opened_stays entries more fd e
fd_of_call-append call entries more fd e = e

-- a call attaches by its descriptor alone
pub attaches_by-fd_of_call : (p : Place) (entries : List Entry) (fd : ℕ) → AreOfCall p entries → list_any (attaches_by fd) entries ≡ true →
    fd_of_call p.call (p.before ++ entries) ≡ Some fd
attaches_by-fd_of_call p [] fd all some = absurd (false≢true some)
attaches_by-fd_of_call p (e ∷ entries) fd all some =
    ⊎_elim
    (λ here. fd_of_call-append p.call p.before (e ∷ entries) fd (by_this e all.0.fields here))
    (λ later.
    subst (λ (es : List Entry). fd_of_call p.call es ≡ Some fd) (append_assoc p.before (e ∷ []) entries)
    (attaches_by-fd_of_call (record p { before = p.before ++ e ∷ [] }) entries fd all.2 later))
    (or_cases (attaches_by fd e) (list_any (attaches_by fd) entries) some)
  where
    by_this : (e : Entry) → HasFieldsOf p e → attaches_by fd e ≡ true → fd_of_call p.call p.before ≡ Some fd
    by_this (Attached at by part) fields is = fields ∙ ap Some (eqb-true by fd is)
    by_this other fields is = absurd (false≢true is)

-- whether a call may attach rights
abbrev pub can_attach : Call → Bool
can_attach (Enter name mode Direct) = true
can_attach (Map fd) = true
can_attach call = false

attached_can : (call : Call) (at : At) (fd part : ℕ) → is_made_by call (Attached at fd part) ≡ true → can_attach call ≡ true
attached_can (Enter name mode Direct) at fd part made = refl
attached_can (Map named) at fd part made = refl
attached_can call at fd part made = made

-- a call that attached may attach
pub attaches_by-can_attach : (p : Place) (entries : List Entry) (fd : ℕ) → AreOfCall p entries → list_any (attaches_by fd) entries ≡ true →
    can_attach p.call ≡ true
attaches_by-can_attach p [] fd all some = absurd (false≢true some)
attaches_by-can_attach p (e ∷ entries) fd all some =
    ⊎_elim
    (λ here. by_this e all.0.kind here)
    (λ later. attaches_by-can_attach (record p { before = p.before ++ e ∷ [] }) entries fd all.2 later)
    (or_cases (attaches_by fd e) (list_any (attaches_by fd) entries) some)
  where
    by_this : (e : Entry) → is_made_by p.call e ≡ true → attaches_by fd e ≡ true → can_attach p.call ≡ true
    by_this (Attached at by part) made is = attached_can p.call at by part made
    by_this other made is = absurd (false≢true is)

-- ---- the end of a call that attached

-- a reason, if there is one, is none of those that come in the middle of a call
abbrev IsAtFirst : Option Reason → Type 0
IsAtFirst reason = IfSome reason (λ r. IsOfGrowth r → ⊥)

at_first-or : (a b : Option Reason) → IsAtFirst a → IsAtFirst b → IsAtFirst (option_or a b)
at_first-or None b first second = second
at_first-or (Some r) b first second = first

at_first-denied : (rule : Option ℕ) → IsAtFirst (option_map Denied rule)
at_first-denied None = tt
at_first-denied (Some rule) = λ growth. growth

at_first-denial : (s : Store) (process : ℕ) (mode : Mode) (slot : Option Inode) →
    IsAtFirst (option_and_then (λ (f : Inode). option_map Denied (open_denial mode (user_of s process) f.owner f.perms)) slot)
at_first-denial s process mode None = tt
at_first-denial s process mode (Some f) = at_first-denied (open_denial mode (user_of s process) f.owner f.perms)

at_first-full : (full : Bool) → IsAtFirst (reason_if full FdsFull)
at_first-full true = λ growth. growth
at_first-full false = tt

at_first-open : (s : Store) (process : ℕ) (mode : Mode) (id : Option ℕ) →
    IsAtFirst (option_map_or (λ file. option_or (denial s process mode file) (reason_if (not (is_some (lowest_fd s process))) FdsFull)) id (Some NoFile))
at_first-open s process mode None = λ growth. growth
at_first-open s process mode (Some file) =
    at_first-or (denial s process mode file) (reason_if (not (is_some (lowest_fd s process))) FdsFull) (at_first-denial s process mode (file_in s file))
    (at_first-full (not (is_some (lowest_fd s process))))

at_first-holder : (h : Option Holder) → IsAtFirst (option_map (λ (h : Holder). KernelOpen h.process) h)
at_first-holder None = tt
at_first-holder (Some h) = λ growth. growth

at_first-map : (s : Store) (slot : Option Descriptor) → IsAtFirst (option_map_or (map_refusal s) slot (Some BadFd))
at_first-map s None = λ growth. growth
at_first-map s (Some d) = at_first-holder (first_plain s d.file)

-- a call that may attach is refused as it begins or not at all
attach_refusal-at_first : (s : Store) (call : Call) (at : At) (before : List Entry) → can_attach call ≡ true →
    IsAtFirst (refusal_of s (record { call = call; at = at; before = before }))
attach_refusal-at_first s (Enter name mode Direct) at before can =
    at_first-or (open_refusal s at.process name mode) None (at_first-open s at.process mode (id_of name s.files)) tt
attach_refusal-at_first s (Map fd) at before can =
    at_first-or (first_refusal s at.process (Map fd)) None (at_first-map s (descriptor_at s at.process fd)) tt
attach_refusal-at_first s call at before can = absurd (false≢true can)

-- where none passed before and one does now, it is the last
pub last_passes : (test : Entry → Bool) (before : List Entry) (e : Entry) → list_any test before ≡ false → list_any test (before ++ e ∷ []) ≡ true →
    test e ≡ true
last_passes test before e none some =
    ⊎_elim
    (λ earlier. absurd (both_ways (list_any test before) none earlier))
    (λ last. ⊎_elim (λ here. here) (λ no. absurd (false≢true no)) (or_cases (test e) false last))
    (or_cases (list_any test before) (list_any test (e ∷ [])) (sym (list_any-append test before (e ∷ [])) ∙ some))

-- the entry that ends such a call alone
end_is_last : (call : Call) (before : List Entry) (e : Entry) → can_attach call ≡ true → is_ended_by call before ≡ false →
    is_ended_by call (before ++ e ∷ []) ≡ true →
    is_end_of call e ≡ true
end_is_last (Enter name mode Direct) before e can running ended = last_passes (is_end_of (Enter name mode Direct)) before e running ended
end_is_last (Map fd) before e can running ended = last_passes (is_end_of (Map fd)) before e running ended
end_is_last call before e can running ended = absurd (false≢true can)

-- a call that attached tells the size as it ends
pub told_at_end : (s : Store) (call : Call) (at : At) (before : List Entry) (e : Entry) (fd : ℕ) → can_attach call ≡ true →
    is_ended_by call before ≡ false → is_ended_by call (before ++ e ∷ []) ≡ true → list_any (attaches_by fd) (before ++ e ∷ []) ≡ true →
    HasRightReason s (record { call = call; at = at; before = before }) e → tells_size e ≡ true
told_at_end s call at before e fd can running ended attached reason = by_this call e can (end_is_last call before e can running ended) attached reason
  where
    refused : (call : Call) (here : At) (why : Reason) → can_attach call ≡ true →
        list_any (attaches_by fd) (before ++ Refused here None why ∷ []) ≡ true →
        HasRightReason s (record { call = call; at = at; before = before }) (Refused here None why) → ⊥
    refused call here why can attached reason =
        MatchOption-at_some _ _ why reason.first (attach_refusal-at_first s call at before can)
        (reason.of_growth (λ none. false≢true
        (subst (λ (es : List Entry). list_any (attaches_by fd) (es ++ Refused here None why ∷ []) ≡ true) none attached)))

    by_this : (call : Call) (e : Entry) → can_attach call ≡ true → is_end_of call e ≡ true →
        list_any (attaches_by fd) (before ++ e ∷ []) ≡ true →
        HasRightReason s (record { call = call; at = at; before = before }) e → tells_size e ≡ true
    by_this (Enter name mode Direct) (Mapped here by count) can is attached reason = refl
    by_this (Map by_fd) (Mapped here by count) can is attached reason = refl
    by_this (Enter name mode Direct) (Refused here None why) can is attached reason = absurd (refused (Enter name mode Direct) here why can attached reason)
    by_this (Map by_fd) (Refused here None why) can is attached reason = absurd (refused (Map by_fd) here why can attached reason)
    by_this (Enter name mode Direct) other can is attached reason = absurd (false≢true is)
    by_this (Map by_fd) other can is attached reason = absurd (false≢true is)
    by_this call other can is attached reason = absurd (false≢true can)
