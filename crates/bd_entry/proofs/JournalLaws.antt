-- Journals in parts, and the one store that a journal leads to.
use Rattle.std.proofs.Common.{◌≡◌, List, [], ◌∷◌, ◌++◌, Option, Some, refl, sym, ap, ◌∙◌, subst, append_assoc}
use Rattle.std.proofs.lemmas.List.{append-nil}
use Rattle.std.proofs.lemmas.Option.{same_Some}
use Rattle.bd_base.specs.declared.script.Call.{Call}
use Rattle.bd_base.specs.declared.script.Script.{Script}
use Rattle.bd_entry.specs.declared.entry.Entry.{Entry}
use Rattle.bd_entry.specs.Calls.{at_of}
use Rattle.bd_entry.specs.Effects.{effect_of}
use Rattle.bd_entry.specs.History.{InOrderFrom, Legal, Step}
use Rattle.bd_entry.specs.Rules.{place_in}
use Rattle.bd_entry.specs.Laws.{InOrderInParts, LeadsToOneStore, LegalInParts}
use Rattle.bd_entry.specs.Store.{Store}

-- a legal journal is one in each part
Legal-parted : (script : Script) (front back : List Entry) (s t : Store) → Legal script s (front ++ back) t →
    (middle : Store) × Legal script s front middle × Legal script middle back t
Legal-parted script [] back s t legal = (s, refl, legal)
Legal-parted script (e ∷ front) back s t legal =
    let rest = Legal-parted script front back legal.1 t legal.4 in
    (rest.0, (legal.0, legal.1, legal.2, legal.3, rest.1), rest.2)

-- legal parts are a legal journal
Legal-joined : (script : Script) (front back : List Entry) (s middle t : Store) → Legal script s front middle → Legal script middle back t →
    Legal script s (front ++ back) t
Legal-joined script [] back s middle t same legal = subst (λ (x : Store). Legal script x back t) (sym same) legal
Legal-joined script (e ∷ front) back s middle t first legal =
    (first.0, first.1, first.2, first.3, Legal-joined script front back first.1 middle t first.4 legal)

pub legal_in_parts : LegalInParts
legal_in_parts script front back s t =
    (Legal-parted script front back s t, λ parts. Legal-joined script front back s parts.0 t parts.1 parts.2)

-- a journal in order is in order in each part
InOrderFrom-parted : (script : Script) (before front back : List Entry) → InOrderFrom script before (front ++ back) →
    InOrderFrom script before front × InOrderFrom script (before ++ front) back
InOrderFrom-parted script before [] back order = (tt, subst (λ (first : List Entry). InOrderFrom script first back) (sym (append-nil before)) order)
InOrderFrom-parted script before (e ∷ front) back order =
    let rest = InOrderFrom-parted script (before ++ e ∷ []) front back order.1 in
    ((order.0, rest.0), subst (λ (first : List Entry). InOrderFrom script first back) (append_assoc before (e ∷ []) front) rest.1)

-- parts in order are a journal in order
InOrderFrom-joined : (script : Script) (before front back : List Entry) → InOrderFrom script before front → InOrderFrom script (before ++ front) back →
    InOrderFrom script before (front ++ back)
InOrderFrom-joined script before [] back first order = subst (λ (head : List Entry). InOrderFrom script head back) (append-nil before) order
InOrderFrom-joined script before (e ∷ front) back first order = (
  first.0,
  InOrderFrom-joined script (before ++ e ∷ []) front back first.1
      (subst (λ (head : List Entry). InOrderFrom script head back) (sym (append_assoc before (e ∷ []) front)) order),
)

pub in_order_in_parts : InOrderInParts
in_order_in_parts script before front back =
    (InOrderFrom-parted script before front back, λ parts. InOrderFrom-joined script before front back parts.0 parts.1)

-- the call of an entry, and so the store after it, is determined
same_next : (script : Script) (s : Store) (e : Entry) (called : Option Call) (c d : Call) (t u : Store) →
    called ≡ Some c → called ≡ Some d → Step s (place_in s c (at_of e)) e t → Step s (place_in s d (at_of e)) e u → t ≡ u
same_next script s e called c d t u is_c is_d first second =
    let same : c ≡ d = same_Some c d (sym is_c ∙ is_d) in
    first.after ∙ ap (λ (call : Call). effect_of s (place_in s call (at_of e)) e) same ∙ sym second.after

pub one_store : LeadsToOneStore
one_store script s [] t u first second = sym first ∙ second
one_store script s (e ∷ journal) t u first second =
    let same : first.1 ≡ second.1 = same_next script s e _ first.0 second.0 first.1 second.1 first.2 second.2 first.3 second.3 in
    one_store script second.1 journal t u (subst (λ (next : Store). Legal script next journal t) same first.4) second.4
