-- Lists of lines and of items as texts.
use Rattle.std.proofs.Common.{◌≡◌, ℕ, ◌+◌, ◌<◌, List, [], ◌∷◌, ◌++◌, length, get_or, take, map, refl, sym, ap, ◌∙◌, append_assoc, append-nil}
use Rattle.std.specs.List.{flat_map}
use Rattle.std.proofs.lemmas.List.{map_more, take_more}
use Rattle.std.proofs.lemmas.List.Concat.{flat_map-append}
use Rattle.bd_blocks.specs.declared.text.TheConstants.{LF, SPACE}
use Rattle.bd_script.specs.Texts.{Form, Written, form_text, later_items, lines_text, written_text}

pub lines_text-append : (a b : List Form) → lines_text (a ++ b) ≡ lines_text a ++ lines_text b
lines_text-append [] b = refl
lines_text-append (f ∷ a) b =
    ap (λ (l : List ℕ). form_text f ++ LF ∷ l) (lines_text-append a b) ∙ sym (append_assoc (form_text f) (LF ∷ lines_text a) (lines_text b))

-- one more line
pub lines_text-more : (a : List Form) (f : Form) → lines_text (a ++ f ∷ []) ≡ (lines_text a ++ form_text f) ++ LF ∷ []
lines_text-more a f = lines_text-append a (f ∷ []) ∙ sym (append_assoc (lines_text a) (form_text f) (LF ∷ []))

pub later_items-append : (a b : List Written) → later_items (a ++ b) ≡ later_items a ++ later_items b
later_items-append [] b = refl
later_items-append (w ∷ a) b =
    ap (λ (l : List ℕ). SPACE ∷ (written_text w ++ l)) (later_items-append a b) ∙ sym (ap (λ (l : List ℕ). SPACE ∷ l) (append_assoc (written_text w)
    (later_items a) (later_items b)))

-- one more item
pub later_items-more : (a : List Written) (w : Written) → later_items (a ++ w ∷ []) ≡ (later_items a ++ SPACE ∷ []) ++ written_text w
later_items-more a w =
    later_items-append a (w ∷ []) ∙ ap (λ (l : List ℕ). later_items a ++ SPACE ∷ l) (append-nil (written_text w)) ∙ sym (append_assoc (later_items a)
    (SPACE ∷ []) (written_text w))

-- the text with one more line
pub lines-step : (old : List ℕ) (a : List Form) (f : Form) → ((old ++ lines_text a) ++ form_text f) ++ LF ∷ [] ≡ old ++ lines_text (a ++ f ∷ [])
lines-step old a f =
    ap (λ (l : List ℕ). l ++ LF ∷ []) (append_assoc old (lines_text a) (form_text f)) ∙ append_assoc old (lines_text a ++ form_text f) (LF ∷ [])
    ∙ ap (λ (l : List ℕ). old ++ l) (sym (lines_text-more a f))

-- the text with one more item
pub items-step : (old : List ℕ) (a : List Written) (w : Written) → ((old ++ later_items a) ++ SPACE ∷ []) ++ written_text w ≡ old ++ later_items
    (a ++ w ∷ [])
items-step old a w =
    ap (λ (l : List ℕ). l ++ written_text w) (append_assoc old (later_items a) (SPACE ∷ [])) ∙ append_assoc old (later_items a ++ SPACE ∷ [])
    (written_text w)
    ∙ ap (λ (l : List ℕ). old ++ l) (sym (later_items-more a w))

-- a list made of one more element
pub made-more : {X Y : Type 0} (f : X → Y) (xs : List X) (i : ℕ) (x : X) → i < length xs → x ≡ get_or xs i x → map f (take (i + 1) xs) ≡ map f
    (take i xs) ++ f x ∷ []
made-more {X} {Y} f xs i x within is = map_more f xs i x within ∙ ap (λ (y : X). map f (take i xs) ++ f y ∷ []) (sym is)

pub flat-more : {X Y : Type 0} (f : X → List Y) (xs : List X) (i : ℕ) (x : X) → i < length xs → x ≡ get_or xs i x → flat_map f
    (take (i + 1) xs) ≡ flat_map f (take i xs) ++ f x
flat-more {X} {Y} f xs i x within is =
    ap (flat_map f) (take_more xs i x within) ∙ flat_map-append f (take i xs) (get_or xs i x ∷ []) ∙ ap (λ (l : List Y). flat_map f (take i xs) ++ l)
    (append-nil (f (get_or xs i x)))
    ∙ ap (λ (y : X). flat_map f (take i xs) ++ f y) (sym is)
