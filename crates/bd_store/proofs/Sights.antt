-- What is decided from files and descriptors alone, in a store that has these.
use Rattle.std.proofs.Common.{◌≡◌, ℕ, [], subst, sym}
use Rattle.std.specs.Prelude.{slice_index_or}
use Rattle.bd_base.specs.declared.journal.At.{At}
use Rattle.bd_base.specs.declared.script.Call.{Call}
use Rattle.bd_entry.specs.Calls.{Place}
use Rattle.bd_entry.specs.Store.{Store}
use Rattle.bd_fs.specs.Files.{Files}
use Rattle.bd_kernel.specs.Changes.{Rows}
use Rattle.bd_kernel.specs.Marks.{AreMarksOf, Marks}
use Rattle.bd_kernel.specs.Sights.{ForUser, AtPlace as AtPlaceIn}
use Rattle.bd_kernel.specs.Turns.{ArePieceMarksOf}
use Rattle.bd_store.specs.Kept.{AtPlace, Kept, bare, files_of, marks_at}

module _ (k : Kept) (fs : Files) (rows : Rows) (same_fs : fs ≡ files_of k) (same_rows : rows ≡ k.opens) where
  -- what holds at the place of a call holds there in the store
  pub at_place : (call : Call) (at : At) (marks : Marks) (Holds : Store → Place → Type 0) → marks ≡ marks_at k at.process →
      AtPlaceIn fs rows call at.process marks.opened Holds → AtPlace k call at Holds
  at_place call at marks Holds same_marks holds work marked =
      let by_fs = subst (λ (f : Files). AtPlaceIn f rows call at.process marks.opened Holds) same_fs holds in
      let by_rows = subst (λ (r : Rows). AtPlaceIn (files_of k) r call at.process marks.opened Holds) same_rows by_fs in
      let before = slice_index_or work at.process [] in
      let here : AreMarksOf marks before = subst (λ (m : Marks). AreMarksOf m before) (sym same_marks) (marked at.process) in
      by_rows k.uids k.bytes work at.call before here.opened

  -- the same where it holds by the marks of pieces
  pub at_place_of_pieces : (call : Call) (at : At) (marks : Marks) (Holds : Store → Place → Type 0) → marks ≡ marks_at k at.process →
      AtPlaceIn fs rows call at.process marks.opened (λ s p. ArePieceMarksOf marks [] p.before → Holds s p) → AtPlace k call at Holds
  at_place_of_pieces call at marks Holds same_marks holds work marked =
      let before = slice_index_or work at.process [] in
      let here : AreMarksOf marks before = subst (λ (m : Marks). AreMarksOf m before) (sym same_marks) (marked at.process) in
      at_place call at marks (λ s p. ArePieceMarksOf marks [] p.before → Holds s p) same_marks holds work marked
      (record { answered = λ piece out. here.answered piece; missed = λ piece out. here.missed piece })

  -- what holds for the user of a process holds of the process
  pub for_user : (process uid : ℕ) (Holds : Store → Type 0) → uid ≡ slice_index_or k.uids process 0 →
      ForUser fs rows process uid Holds → Holds (bare k)
  for_user process uid Holds same_user holds =
      let by_fs = subst (λ (f : Files). ForUser f rows process uid Holds) same_fs holds in
      let by_rows = subst (λ (r : Rows). ForUser (files_of k) r process uid Holds) same_rows by_fs in
      by_rows k.uids k.bytes [] (sym same_user)
