-- Drafts with one more process or call.
use Rattle.std.specs.Prelude.{All}
use Rattle.std.specs.List.{flat_map}
use Rattle.std.specs.Option.{option_to_list}
use Rattle.std.proofs.Common.{◌≡◌, ℕ, ◌<◌, Option, Some, List, [], ◌∷◌, ◌++◌, length, refl, sym, ap, ◌∙◌, subst, append_assoc, append-nil, length-append, arith}
use Rattle.std.proofs.lemmas.List.{get_or_append_left, get_or_at, map_push}
use Rattle.std.proofs.lemmas.List.Concat.{flat_map-append}
use Rattle.std.proofs.lemmas.List.Elements.{All-nil, All-push}
use Rattle.bd_base.specs.declared.limits.TheConstants.{CALLS, PROCESSES, USERS}
use Rattle.bd_base.specs.declared.script.Call.{Call}
use Rattle.bd_base.specs.declared.script.Process.{Process}
use Rattle.bd_base.specs.declared.script.ScheduleLine.{ScheduleLine}
use Rattle.bd_script.specs.Drafts.{HasMore, IsDraft, Parts, parts, script_of}
use Rattle.bd_base.specs.declared.script.Script.{Script}
use Rattle.bd_script.specs.Rules.{last_calls}
use Rattle.bd_base.specs.Scripts.{IsCall, IsProcess, IsSchedule}
use Rattle.bd_script.specs.Texts.{CallForm, Form, ProcForm, process_lines, script_lines}

-- a draft with one more line
pub record IsMore (d : Parts) (form : Form) (new : Parts) : Type 0 where
  pub is_draft : IsDraft new
  pub more : script_lines (script_of new) ≡ script_lines (script_of d) ++ form ∷ []

-- the calls of the last process
pub last_calls-push : (ps : List Process) (p : Process) → last_calls (ps ++ p ∷ []) ≡ length p.calls
last_calls-push [] p = refl
last_calls-push (q ∷ []) p = refl
last_calls-push (q ∷ r ∷ ps) p = last_calls-push (r ∷ ps) p

all-front : {X : Type 0} (P : X → Type 0) (xs : List X) (x : X) → All P (xs ++ x ∷ []) → All P xs
all-front {X} P xs x all = λ k d within. subst P (get_or_append_left xs (x ∷ []) d k within) (all k d (omega (arith, length-append xs (x ∷ []))))

all-last : {X : Type 0} (P : X → Type 0) (xs : List X) (x : X) → All P (xs ++ x ∷ []) → P x
all-last {X} P xs x all = subst P (get_or_at xs x [] x (length xs) refl) (all (length xs) x (omega (arith, length-append xs (x ∷ []))))

lines-push : (ps : List Process) (p : Process) → flat_map process_lines (ps ++ p ∷ []) ≡ flat_map process_lines ps ++ process_lines p
lines-push ps p = flat_map-append process_lines ps (p ∷ []) ∙ ap (λ (l : List Form). flat_map process_lines ps ++ l) (append-nil (process_lines p))

more-call-here : (ps : List Process) (p : Process) (left : ℕ) (call : Call) → length p.calls < CALLS → IsCall call
    → IsDraft (parts ps (Some p) [] left) →
    IsMore (parts ps (Some p) [] left) (CallForm call) (parts ps (Some (record { uid = p.uid; calls = p.calls ++ call ∷ [] })) [] left)
more-call-here ps p left call room is d =
    let new : Process = record { uid = p.uid; calls = p.calls ++ call ∷ [] } in
    let was : IsProcess p = all-last IsProcess ps p d.limits.processes in
    let process : IsProcess new = record {
      uid = was.uid;
      count = omega (
        arith,
        length-append p.calls
            (call ∷ []),
      );
      calls = All-push IsCall p.calls call was.calls is;
    } in
    record {
      is_draft = record {
        limits = record {
          process_count = omega (arith, d.limits.process_count, length-append ps (p ∷ []), length-append ps (new ∷ []));
          processes = All-push IsProcess ps new (all-front IsProcess ps p d.limits.processes) process;
          schedule_count = omega arith;
          schedule = All-nil (IsSchedule (length (ps ++ new ∷ [])));
          turns = d.limits.turns;
        };
        no_last = λ none. absurd (let no : ⊥ = cc none in no);
        left = d.left;
      };
      more = append-nil (flat_map process_lines (ps ++ new ∷ [])) ∙ lines-push ps new
          ∙ ap (λ (l : List Form). flat_map process_lines ps ++ ProcForm p.uid ∷ l) (map_push CallForm p.calls call)
          ∙ sym (append_assoc (flat_map process_lines ps) (process_lines p) (CallForm call ∷ []))
          ∙ sym (ap (λ (l : List Form). l ++ CallForm call ∷ []) (append-nil (flat_map process_lines (ps ++ p ∷ [])) ∙ lines-push ps p));
    }

-- the last process has one more call
pub more-call : (d : Parts) (p : Process) (call : Call) → d.schedule ≡ [] → d.last ≡ Some p → length p.calls < CALLS → IsCall call → IsDraft d →
    IsMore d (CallForm call) (parts d.processes (Some (record { uid = p.uid; calls = p.calls ++ call ∷ [] })) d.schedule d.left)
more-call d p call none last room is =
    subst (λ (l : Option Process). IsDraft (parts d.processes l d.schedule d.left) →
    IsMore (parts d.processes l d.schedule d.left) (CallForm call)
    (parts d.processes (Some (record { uid = p.uid; calls = p.calls ++ call ∷ [] })) d.schedule d.left)) (sym last)
    (subst (λ (s : List ScheduleLine). IsDraft (parts d.processes (Some p) s d.left) →
    IsMore (parts d.processes (Some p) s d.left) (CallForm call)
    (parts d.processes (Some (record { uid = p.uid; calls = p.calls ++ call ∷ [] })) s d.left)) (sym none)
    (more-call-here d.processes p d.left call room is))

more-process-here : (ps : List Process) (last : Option Process) (left uid : ℕ) → length (ps ++ option_to_list last) < PROCESSES → uid < USERS → IsDraft
    (parts ps last [] left) →
    IsMore (parts ps last [] left) (ProcForm uid) (parts (ps ++ option_to_list last) (Some (record { uid = uid; calls = [] })) [] left)
more-process-here ps last left uid room small d =
    let all : List Process = ps ++ option_to_list last in
    let new : Process = record { uid = uid; calls = [] } in
    let process : IsProcess new = record { uid = small; count = omega arith; calls = All-nil IsCall } in
    record {
      is_draft = record {
        limits = record {
          process_count = omega (arith, length-append all (new ∷ []));
          processes = All-push IsProcess all new d.limits.processes process;
          schedule_count = omega arith;
          schedule = All-nil (IsSchedule (length (all ++ new ∷ [])));
          turns = d.limits.turns;
        };
        no_last = λ none. absurd (let no : ⊥ = cc none in no);
        left = d.left;
      };
      more = append-nil (flat_map process_lines (all ++ new ∷ [])) ∙ lines-push all new
          ∙ sym (ap (λ (l : List Form). l ++ ProcForm uid ∷ []) (append-nil (flat_map process_lines all)));
    }

-- there is one more process, with no call
pub more-process : (d : Parts) (uid : ℕ) → d.schedule ≡ [] → length (script_of d).processes < PROCESSES → uid < USERS → IsDraft d →
    IsMore d (ProcForm uid) (parts (script_of d).processes (Some (record { uid = uid; calls = [] })) d.schedule d.left)
more-process d uid none room small =
    subst (λ (s : List ScheduleLine). IsDraft (parts d.processes d.last s d.left) →
    IsMore (parts d.processes d.last s d.left) (ProcForm uid) (parts (script_of d).processes (Some (record { uid = uid; calls = [] })) s d.left)) (sym none)
    (more-process-here d.processes d.last d.left uid room small)

-- the script that is seen as such a draft has one more line
pub has-more : (s : Script) (d : Parts) (form : Form) (new : Parts) → script_of d ≡ s → IsMore d form new → HasMore s form (script_of new)
has-more s d form new same m =
    record { limits = m.is_draft.limits; lines = m.more ∙ ap (λ (t : Script). script_lines t ++ form ∷ []) same }
