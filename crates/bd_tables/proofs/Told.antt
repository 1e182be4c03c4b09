-- What plain tables promise of a translation that an engine holds.
use Rattle.std.proofs.Common.{◌≡◌, ℕ, ◌≤◌, Option, None, Some, ap, ◌∙◌, subst}
use Rattle.std.specs.Option.{option_map}
use Rattle.bd_base.specs.declared.key.Cell.{Cell}
use Rattle.bd_file_table.specs.Fragments.{Book, Fragment}
use Rattle.bd_tables.specs.declared.request.Completion.{Completion}
use Rattle.bd_tables.specs.declared.request.Request.{Request}
use Rattle.bd_tables.specs.declared.state.Right.{Right}
use Rattle.bd_tables.specs.declared.state.Walk.{Walk}
use Rattle.bd_tables.specs.declared.state.Walk.TheVariants.{Idle, Entered, Refused, Translated}
use Rattle.bd_tables.specs.Answers.{IsTranslated, Serves}
use Rattle.bd_tables.specs.Kernel.{ConfirmedBy, IsConfirmed, RepeatsEntry, RepeatsIn}
use Rattle.bd_tables.specs.Plain.{PlainState, cells_of, its_cells, kernel_of, place_at, tables_of, walk_of, walks_of}
use Rattle.bd_tables.specs.Sound.{Allows, IsOfEntry, IsSound, OnRight, granted_of}
use Rattle.bd_tables.specs.State.{cell_of, entry_in, lookup_under, pair_under, walk_at}
use Rattle.bd_tables.proofs.Places.{get-cells_of, walk_at-places}

pub walk_lent : (plain : PlainState) (process : ℕ) (walk : Walk) → place_at plain.places process ≡ Some walk →
    walk_at (walks_of plain.places) process ≡ walk
walk_lent plain process walk at = walk_at-places plain.places process ∙ ap walk_of at

pub told_serves : (plain : PlainState) → IsSound (tables_of plain) → (process : ℕ) (walk : Walk) → place_at plain.places process ≡ Some walk →
    (request : Request) (completion : Completion) → walk ≡ Translated request completion → Serves request completion
told_serves plain sound process walk at request completion is =
    let held = sound.held process request completion (walk_lent plain process walk at ∙ is) in
    record { read = held.read; write = held.write; reaches = held.reaches }

repeats-entry : (request : Request) (completion : Completion) → (entry : Option Cell) → IsOfEntry (cell_of completion) entry →
    request.hi ≤ completion.limit →
    RepeatsEntry request completion entry
repeats-entry request completion None is reaches = absurd is
repeats-entry request completion (Some entry) is reaches = record { block = is.block; within = is.limit; reaches = reaches }

repeats-in : (request : Request) (completion : Completion) → (fragment : Option Fragment) →
    IsOfEntry (cell_of completion) (entry_in (option_map its_cells fragment) request.index) → request.hi ≤ completion.limit →
    RepeatsIn request completion fragment
repeats-in request completion None is reaches = absurd is
repeats-in request completion (Some fragment) is reaches = repeats-entry request completion _ is reaches

confirmed_under : (book : Book) (request : Request) (completion : Completion) (right : Option Right) → OnRight (Allows request) right →
    IsOfEntry (cell_of completion) (lookup_under (cells_of book) request.key request.index right) → request.hi ≤ completion.limit →
    ConfirmedBy book request completion right
confirmed_under book request completion None allowed is reaches = absurd allowed
confirmed_under book request completion (Some right) allowed is reaches = record {
  writable = allowed.writable;
  current = repeats-in request completion _
      (subst (λ v. IsOfEntry (cell_of completion) (entry_in v request.index)) (get-cells_of book (pair_under request.key right)) is) reaches;
}

pub confirms : (plain : PlainState) → IsSound (tables_of plain) → (process : ℕ) (walk : Walk) → place_at plain.places process ≡ Some walk →
    IsTranslated walk →
    IsConfirmed (kernel_of plain) walk
confirms plain sound process Idle at translated = absurd translated
confirms plain sound process (Entered request) at translated = absurd translated
confirms plain sound process (Refused request found) at translated = absurd translated
confirms plain sound process (Translated request completion) at translated =
    let there = walk_lent plain process (Translated request completion) at in
    let held = sound.held process request completion there in
    confirmed_under plain.book request completion _ (sound.granted process request (ap granted_of there)) held.entry held.reaches
