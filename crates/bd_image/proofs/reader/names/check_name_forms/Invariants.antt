use Rattle.std.proofs.Common.{◌≡◌, ◌<◌, ℕ}
use Rattle.bd_image.specs.Layout.{name_field, used_mark}
use Rattle.bd_image.specs.Rules.{IsNameField}
use Rattle.bd_image.proofs.reader.names.check_name_forms.Given as goal

abbrev pub invariant-loop-j : goal.invariant-loop-j
invariant-loop-j l = (i : ℕ) → i < l.j → used_mark l.bytes i ≡ 1 → IsNameField (name_field l.bytes i)
