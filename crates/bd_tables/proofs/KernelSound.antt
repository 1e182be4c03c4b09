-- The tables stay sound through each change by the kernel.
use Rattle.std.proofs.Common.{◌≡◌, ℕ, zero, suc, ◌+◌, ◌%◌, ◌<◌, ◌≢◌, Bool, true, false, cond, nat_eq, Option, None, Some, List, [], ◌∷◌, length, is_some, refl, sym, ap, ◌∙◌, subst, inl, inr, arith, set, get_or, replicate, IfSome}
use Rattle.std.specs.Option.{option_map}
use Rattle.std.specs.FinMap as fin
use Rattle.std.specs.FinMap.{get-remove}
use Rattle.std.specs.Cmp.{tied_itself}
use Rattle.std.specs.Ordering.{is_eq}
use Rattle.std.proofs.lemmas.Bool.{cases_Bool, cases_eq, cond-false, cond-true, eqb-true, true≢false}
use Rattle.std.proofs.lemmas.List.{get_or-replicate, get_or-set_same, get_or-set_other, length-set}
use Rattle.std.proofs.lemmas.List.Sums.{sum_by-cons}
use Rattle.std.proofs.lemmas.Option.{none-some, same_Some}
use Rattle.bd_base.specs.declared.key.Cell.{Cell}
use Rattle.bd_base.specs.declared.key.Key.{Key}
use Rattle.bd_base.specs.Keys.{Pair, key_cmp_total, pair_cmp_total, same_key, same_key-is, same_pair, same_pair-is}
use Rattle.bd_file_table.specs.Fragments.{Cells, cell_at, padded, with_cell}
use Rattle.bd_lines.specs.declared.lines.Line.{Line}
use Rattle.bd_lines.specs.declared.lines.TheConstants.{LINES}
use Rattle.bd_lines.specs.Lines.{LineList, is_of_key, line_at, swept_line}
use Rattle.bd_tables.specs.declared.request.Request.{Request}
use Rattle.bd_tables.specs.declared.state.Right.{Right}
use Rattle.bd_tables.specs.declared.state.RightState.{RightState}
use Rattle.bd_tables.specs.declared.state.RightState.TheVariants.{On, Cleared, Drained}
use Rattle.bd_tables.specs.declared.state.Walk.{Walk}
use Rattle.bd_tables.specs.declared.state.Walk.TheVariants.{Idle, Entered, Refused, Translated}
use Rattle.bd_tables.proofs.Maps.{get-change, other_key}
use Rattle.bd_tables.proofs.Users.{user-counts}
use Rattle.bd_tables.specs.Effects.{after_detach, change, none_swept, sweep_state, with_limit}
use Rattle.bd_tables.specs.Kernel.{IsAttachedIn, IsDrained, IsSweptWhole, ReachesUpTo}
use Rattle.bd_tables.specs.Laws.{AttachKeeps, ClearKeeps, DetachKeeps, DrainKeeps, DrainedKeysAreLeft, PutKeeps, PutLowersNothing, RaiseKeeps, RaiseLowersNothing, SweepKeeps, SweptKeysAreInNoLine}
use Rattle.bd_tables.specs.Sound.{Allows, IsKey, IsOfEntry, IsOpen, IsSound, IsUnswept, OnRight, granted_of}
use Rattle.bd_tables.specs.State.{CellMap, Rights, TableState, block_pair, cell_of, engines_in, entry_in, is_in, lookup, lookup_under, pair_for, pair_under, users, walk_at}

-- ---- what stays where the rights and the cells keep what engines and lines hold

-- each entry reaches as far as before
pub CellsGrow : CellMap → CellMap → Type 0
CellsGrow old new = (pair : Pair) (index : ℕ) (cell : Cell) → IsOfEntry cell (entry_in (fin.get old pair) index) →
    IsOfEntry cell (entry_in (fin.get new pair) index)

grown : (old new : CellMap) → CellsGrow old new → (key : Key) (index : ℕ) (cell : Cell) (right : Option Right) →
    IsOfEntry cell (lookup_under old key index right) → IsOfEntry cell (lookup_under new key index right)
unfolding CellsGrow
grown old new grow key index cell None is = is
grown old new grow key index cell (Some right) is = grow (pair_under key right) index cell is

-- ---- a change of the state of one right

with_states : Rights → Key → (RightState → RightState) → Rights
with_states rights key f = change rights key (λ right. record right { state = f right.state })

lookup_states : (rights : Rights) (cells : CellMap) (key : Key) (f : RightState → RightState) (q : Key) (index : ℕ) (cell : Cell) →
    IsOfEntry cell (lookup_under cells q index (fin.get rights q)) → IsOfEntry cell (lookup_under cells q index (fin.get (with_states rights key f) q))
unfolding with_states
lookup_states rights cells key f q index cell is =
    get-change key_cmp_total rights key (λ right. record right { state = f right.state }) q (λ v. IsOfEntry cell (lookup_under cells q index v))
    (λ other. is)
    (λ x at same.
    let here : fin.get rights q ≡ Some x = ap (fin.get rights) (same_key-is q key same) ∙ at in
    subst (λ (v : Option Right). IsOfEntry cell (lookup_under cells q index v)) here is)
    (λ none. is)

keys_states : (rights : Rights) (key : Key) (f : RightState → RightState) → ((q : Key) (right : Right) → fin.get rights q ≡ Some right → IsKey q) →
    (q : Key) (right : Right) → fin.get (with_states rights key f) q ≡ Some right → IsKey q
unfolding with_states
keys_states rights key f keys q right =
    get-change key_cmp_total rights key (λ right. record right { state = f right.state }) q (λ v. v ≡ Some right → IsKey q)
    (λ other is. keys q right is)
    (λ x at same is. keys q x (ap (fin.get rights) (same_key-is q key same) ∙ at))
    (λ none is. keys q right is)

on_states : (rights : Rights) (key : Key) (f : RightState → RightState) (q : Key) (P : Right → Type 0) → OnRight P (fin.get rights q) →
    ((x : Right) → fin.get rights key ≡ Some x → q ≡ key → P x → P (record x { state = f x.state })) →
    OnRight P (fin.get (with_states rights key f) q)
unfolding with_states
on_states rights key f q P old own =
    get-change key_cmp_total rights key (λ right. record right { state = f right.state }) q (OnRight P)
    (λ other. old)
    (λ x at same.
    let here : fin.get rights q ≡ Some x = ap (fin.get rights) (same_key-is q key same) ∙ at in
    own x at (same_key-is q key same) (subst (OnRight P) here old))
    (λ none. old)

state_sound : (tables : TableState) → IsSound tables → (key : Key) (f : RightState → RightState) (lines : LineList) → length lines ≡ LINES →
    ((process : ℕ) (request : Request) → granted_of (walk_at tables.walks process) ≡ Some request → request.key ≡ key →
    (x : Right) → fin.get tables.rights key ≡ Some x → Allows request x → Allows request (record x { state = f x.state })) →
    ((c : ℕ) (line : Line) → line_at lines c ≡ Some line → line_at tables.lines c ≡ Some line) →
    ((c : ℕ) (line : Line) → line_at lines c ≡ Some line → line.key ≡ key →
    (x : Right) → fin.get tables.rights key ≡ Some x → IsUnswept c x.state → IsUnswept c (f x.state)) →
    IsSound (record tables { rights = with_states tables.rights key f; lines = lines })
state_sound tables sound key f lines sixteen granted was unswept = record {
  sixteen = sixteen;
  keys = keys_states tables.rights key f sound.keys;
  granted = λ process request is.
      on_states tables.rights key f request.key (Allows request) (sound.granted process request is)
      (λ x at same old. granted process request is same x at old);
  held = λ process request completion is.
      let h = sound.held process request completion is in
      record {
        entry = lookup_states tables.rights tables.cells key f request.key request.index (cell_of completion) h.entry;
        reaches = h.reaches;
        read = h.read;
        write = h.write;
      };
  cached = λ c line is.
      let h = sound.cached c line (was c line is) in
      record {
        right = on_states tables.rights key f line.key (λ r. IsUnswept c r.state) h.right (λ x at same old. unswept c line is same x at old);
        entry = lookup_states tables.rights tables.cells key f line.key line.index line.cell h.entry;
      };
}

pub clear_keeps : ClearKeeps
unfolding with_states state_sound
clear_keeps tables sound key on =
    state_sound tables sound key (λ s. Cleared) tables.lines sound.sixteen
    (λ process request is same x at old. record { undrained = tt; writable = old.writable })
    (λ c line is. is)
    (λ c line is same x at old. tt)

-- ---- a drain

in-granted : (key : Key) (walk : Walk) (request : Request) → granted_of walk ≡ Some request → request.key ≡ key → is_in key walk ≡ true
in-granted key Idle request is same = absurd (none-some request is)
in-granted key (Entered r) request is same =
    ap (λ (x : Request). same_key x.key key) (same_Some _ _ is) ∙ ap (λ k. same_key k key) same ∙ ap is_eq (tied_itself key_cmp_total key)
in-granted key (Refused r found) request is same = absurd (none-some request is)
in-granted key (Translated r completion) request is same =
    ap (λ (x : Request). same_key x.key key) (same_Some _ _ is) ∙ ap (λ k. same_key k key) same ∙ ap is_eq (tied_itself key_cmp_total key)

mark_in : Key → Walk → ℕ
mark_in key walk = cond (is_in key walk) 1 0

mark_in-yes : (key : Key) (walk : Walk) → is_in key walk ≡ true → mark_in key walk ≡ 1
unfolding mark_in
mark_in-yes key walk inside = cond-true _ _ _ inside

engines-cons : (key : Key) (walk : Walk) (walks : List Walk) → engines_in (walk ∷ walks) key ≡ mark_in key walk + engines_in walks key
unfolding mark_in
engines-cons key walk walks = sum_by-cons (λ x. cond (is_in key x) 1 0) walk walks

nobody-in : (key : Key) (walks : List Walk) (p : ℕ) → engines_in walks key ≡ 0 → is_in key (walk_at walks p) ≡ false
nobody-in key [] p none = refl
nobody-in key (w ∷ walks) zero none =
    elim (cases_Bool (is_in key w)) [
      | inl inside ↦
          absurd (omega (arith, engines-cons key w walks, mark_in-yes key w inside, none))
      | inr outside ↦ outside
    ]
nobody-in key (w ∷ walks) (suc p) none =
    let rest : engines_in walks key ≡ 0 = omega (arith, engines-cons key w walks, none) in
    nobody-in key walks p rest

none-swept : (n c : ℕ) → get_or (replicate n false) c false ≡ false
none-swept zero c = refl
none-swept (suc n) zero = refl
none-swept (suc n) (suc c) = none-swept n c

pub drain_keeps : DrainKeeps
unfolding with_states state_sound
drain_keeps tables sound key nobody =
    state_sound tables sound key (λ s. Drained none_swept) tables.lines sound.sixteen
    (λ process request is same x at old.
    absurd (true≢false (sym (in-granted key (walk_at tables.walks process) request is same) ∙ nobody-in key tables.walks process nobody)))
    (λ c line is. is)
    (λ c line is same x at old. none-swept LINES c)

-- ---- a sweep

closed : (state : RightState) → IsDrained state → IsOpen state → ⊥
closed On drained undrained = drained
closed Cleared drained undrained = drained
closed (Drained swept) drained undrained = undrained

left_by-sweep : (key : Key) (line : Line) (was : Option Line) → swept_line key was ≡ Some line → (was ≡ Some line) × (is_of_key key line ≡ false)
left_by-sweep key line None is = absurd (none-some line is)
left_by-sweep key line (Some l) is = elim (cases_Bool (is_of_key key l)) [
  | inl ours ↦ absurd (none-some line (sym (cond-true _ _ _ ours) ∙ is))
  | inr other ↦
      let same : Some l ≡ Some line = sym (cond-false _ _ _ other) ∙ is in
      (same, ap (is_of_key key) (sym (same_Some _ _ same)) ∙ other)
]

sweep-unswept : (c line : ℕ) (state : RightState) → IsDrained state → c ≢ line → IsUnswept c state → IsUnswept c (sweep_state line state)
sweep-unswept c line On drained other old = tt
sweep-unswept c line Cleared drained other old = tt
sweep-unswept c line (Drained swept) drained other old = get_or-set_other swept line c true false other ∙ old

attached-in : (P : RightState → Type 0) (right : Option Right) (x : Right) → right ≡ Some x → IsAttachedIn P right → P x.state
attached-in P None x is h = absurd (none-some x is)
attached-in P (Some r) x is h = subst (λ (y : Right). P y.state) (same_Some _ _ is) h

pub sweep_keeps : SweepKeeps
unfolding with_states state_sound
sweep_keeps tables sound c key below drained =
    let lines = set tables.lines c (swept_line key (line_at tables.lines c)) in
    let within : c < length tables.lines = omega (arith, sound.sixteen) in
    let left = λ (q : ℕ) (line : Line) (is : line_at lines q ≡ Some line).
    elim (cases_eq q c) as (λ v. (line_at tables.lines q ≡ Some line) × (q ≡ c → is_of_key key line ≡ false)) [
      | inl same ↦
          let here = left_by-sweep key line _
          (sym (get_or-set_same tables.lines c (swept_line key (line_at tables.lines c)) None within) ∙ ap (line_at lines) (sym same) ∙ is) in
          (ap (line_at tables.lines) same ∙ here.0, λ e. here.1)
      | inr differs ↦
          (sym (get_or-set_other tables.lines c q (swept_line key (line_at tables.lines c)) None differs) ∙ is, λ e. absurd (differs e))
    ] in
    state_sound tables sound key (sweep_state c) lines (length-set tables.lines c (swept_line key (line_at tables.lines c)) ∙ sound.sixteen)
    (λ process request is same x at old. absurd (closed x.state (attached-in IsDrained _ x at drained) old.undrained))
    (λ q line is. (left q line is).0)
    (λ q line is same x at old.
    let ours : is_of_key key line ≡ true = ap (λ k. same_key k key) same ∙ ap is_eq (tied_itself key_cmp_total key) in
    sweep-unswept q c x.state (attached-in IsDrained _ x at drained) (λ e. true≢false (sym ours ∙ (left q line is).1 e)) old)

-- ---- a change of the cells

cells_sound : (tables : TableState) → IsSound tables → (cells : CellMap) → CellsGrow tables.cells cells → IsSound (record tables { cells = cells })
cells_sound tables sound cells grow = record {
  sixteen = sound.sixteen;
  keys = sound.keys;
  granted = sound.granted;
  held = λ process request completion is.
      let h = sound.held process request completion is in
      record {
        entry = grown tables.cells cells grow request.key request.index
            (cell_of completion) _ h.entry;
        reaches = h.reaches;
        read = h.read;
        write = h.write;
      };
  cached = λ c line is.
      let h = sound.cached c line is in
      record { right = h.right; entry = grown tables.cells cells grow line.key line.index line.cell _ h.entry };
}

in_cells : (cells : Cells) (i : ℕ) (cell : Cell) → cell_at cells i ≡ Some cell → i < length cells
in_cells [] i cell is = absurd (none-some cell is)
in_cells (x ∷ cells) zero cell is = omega arith
in_cells (x ∷ cells) (suc i) cell is = let rest = in_cells cells i cell is in omega arith

if_some : {X : Type 0} (P : X → Type 0) (v : Option X) (x : X) → v ≡ Some x → IfSome v P → P x
if_some P None x is h = absurd (none-some x is)
if_some P (Some y) x is h = subst P (same_Some _ _ is) h

put_grows : (cells : CellMap) (file index : ℕ) (cell : Cell) →
    IfSome (fin.get cells (block_pair file index)) (λ cs. cell_at cs (index % 512) ≡ None) →
    CellsGrow cells (change cells (block_pair file index) (with_cell (index % 512) cell))
unfolding CellsGrow
put_grows cells file index cell empty pair i c is =
    let j : ℕ = index % 512 in
    get-change pair_cmp_total cells (block_pair file index) (with_cell j cell) pair (λ v. IsOfEntry c (entry_in v i))
    (λ other. is)
    (λ its at same.
    let here : fin.get cells pair ≡ Some its = ap (fin.get cells) (same_pair-is pair (block_pair file index) same) ∙ at in
    let old = subst (λ (v : Option Cells). IsOfEntry c (entry_in v i)) here is in
    let none = if_some (λ cs. cell_at cs j ≡ None) _ its at empty in
    elim (cases_eq (i % 512) j) [
      | inl hit ↦ absurd (subst (IsOfEntry c) (ap (cell_at its) hit ∙ none) old)
      | inr miss ↦ subst (IsOfEntry c) (sym (get_or-set_other its j (i % 512) (Some cell) None miss)) old
    ])
    (λ none. is)

pub put_keeps : PutKeeps
put_keeps tables sound file index cell empty = cells_sound tables sound _ (put_grows tables.cells file index cell empty)

pub put_lowers_nothing : PutLowersNothing
put_lowers_nothing tables file index cell empty key i reached is =
    grown tables.cells _ (put_grows tables.cells file index cell empty) key i reached (fin.get tables.rights key) is

raised-entry : (c : Cell) (limit : ℕ) (entry : Option Cell) → ReachesUpTo limit entry → IsOfEntry c entry →
    IsOfEntry c (option_map (λ (cell : Cell). record cell { limit = limit }) entry)
raised-entry c limit None up is = is
raised-entry c limit (Some e) up is = record { block = is.block; limit = omega (arith, is.limit, up) }

some_entry : (c : Cell) (entry : Option Cell) → IsOfEntry c entry → (e : Cell) × (entry ≡ Some e)
some_entry c None is = absurd is
some_entry c (Some e) is = (e, refl)

raise_grows : (cells : CellMap) (file index limit : ℕ) →
    IfSome (fin.get cells (block_pair file index)) (λ cs. ReachesUpTo limit (cell_at cs (index % 512))) →
    CellsGrow cells (change cells (block_pair file index) (with_limit (index % 512) limit))
unfolding CellsGrow
raise_grows cells file index limit up pair i c is =
    let j : ℕ = index % 512 in
    get-change pair_cmp_total cells (block_pair file index) (with_limit j limit) pair (λ v. IsOfEntry c (entry_in v i))
    (λ other. is)
    (λ its at same.
    let here : fin.get cells pair ≡ Some its = ap (fin.get cells) (same_pair-is pair (block_pair file index) same) ∙ at in
    let old = subst (λ (v : Option Cells). IsOfEntry c (entry_in v i)) here is in
    let reaches = if_some (λ cs. ReachesUpTo limit (cell_at cs j)) _ its at up in
    let new : Option Cell = option_map (λ (cell : Cell). record cell { limit = limit }) (cell_at its j) in
    elim (cases_eq (i % 512) j) [
      | inl hit ↦
          let there = subst (IsOfEntry c) (ap (cell_at its) hit) old in
          let e = some_entry c _ there in
          let at_j : cell_at (set its j new) (i % 512) ≡ new = ap (cell_at (set its j new)) hit
          ∙ get_or-set_same its j new None (in_cells its j e.0 e.1) in
          subst (IsOfEntry c) (sym at_j) (raised-entry c limit _ reaches there)
      | inr miss ↦ subst (IsOfEntry c) (sym (get_or-set_other its j (i % 512) new None miss)) old
    ])
    (λ none. is)

pub raise_keeps : RaiseKeeps
raise_keeps tables sound file index limit up = cells_sound tables sound _ (raise_grows tables.cells file index limit up)

pub raise_lowers_nothing : RaiseLowersNothing
raise_lowers_nothing tables file index limit up key i reached is =
    grown tables.cells _ (raise_grows tables.cells file index limit up) key i reached (fin.get tables.rights key) is

-- ---- what a revocation reaches

pub drained_keys_are_left : DrainedKeysAreLeft
drained_keys_are_left tables sound key drained process request is same =
    let allowed = sound.granted process request is in
    clash (fin.get tables.rights key) drained (subst (λ k. OnRight (Allows request) (fin.get tables.rights k)) same allowed)
  where
    clash : (right : Option Right) → IsAttachedIn IsDrained right → OnRight (Allows request) right → ⊥
    clash None d a = d
    clash (Some r) d a = closed r.state d a.undrained

line-within : (lines : LineList) (c : ℕ) (line : Line) → line_at lines c ≡ Some line → c < length lines
line-within [] c line is = absurd (none-some line is)
line-within (x ∷ lines) zero line is = omega arith
line-within (x ∷ lines) (suc c) line is = let rest = line-within lines c line is in omega arith

all_swept-no_line : (c : ℕ) → c < LINES → (right : Option Right) → IsAttachedIn IsSweptWhole right → OnRight (λ r. IsUnswept c r.state) right → ⊥
all_swept-no_line c below None s u = s
all_swept-no_line c below (Some r) s u =
    true≢false (sym (get_or-replicate LINES c true false below) ∙ subst (IsUnswept c) s u)

pub swept_keys_are_in_no_line : SweptKeysAreInNoLine
swept_keys_are_in_no_line tables sound key swept c line is same =
    let h = sound.cached c line is in
    all_swept-no_line c (omega (arith, line-within tables.lines c line is, sound.sixteen)) (fin.get tables.rights key) swept
    (subst (λ k. OnRight (λ r. IsUnswept c r.state) (fin.get tables.rights k)) same h.right)

-- ---- a right that comes or goes

other_than : (rights : Rights) (key q : Key) (P : Right → Type 0) → fin.get rights key ≡ None → OnRight P (fin.get rights q) →
    same_key q key ≡ false
other_than rights key q P none on = elim (cases_Bool (same_key q key)) [
  | inl same ↦ absurd (subst (OnRight P) (ap (fin.get rights) (same_key-is q key same) ∙ none) on)
  | inr differs ↦ differs
]

attached_rest : (rights : Rights) (key : Key) (right : Right) (q : Key) (P : Right → Type 0) → fin.get rights key ≡ None →
    OnRight P (fin.get rights q) →
    fin.get (fin.insert rights key right) q ≡ fin.get rights q
attached_rest rights key right q P none on = other_key key_cmp_total rights key right q (other_than rights key q P none on)

share_or_build : CellMap → Pair → Cells → Bool → CellMap
share_or_build cells pair new b = cond b cells (fin.insert cells pair new)

is_none : {X : Type 0} (v : Option X) → is_some v ≡ false → v ≡ None
is_none None e = refl
is_none (Some x) e = absurd (true≢false e)

grow-build : (cells : CellMap) (pair : Pair) (new : Cells) (b : Bool) → is_some (fin.get cells pair) ≡ b →
    CellsGrow cells (share_or_build cells pair new b)
unfolding CellsGrow share_or_build
grow-build cells pair new true has p index cell is = is
grow-build cells pair new false has p index cell is = elim (cases_Bool (same_pair p pair)) [
  | inl same ↦
      let none : fin.get cells p ≡ None = ap (fin.get cells) (same_pair-is p pair same) ∙ is_none _ has in
      absurd (subst (λ (v : Option Cells). IsOfEntry cell (entry_in v index)) none is)
  | inr differs ↦ subst (λ (v : Option Cells). IsOfEntry cell (entry_in v index)) (sym (other_key pair_cmp_total cells pair new p differs)) is
]

pub attach_keeps : AttachKeeps
unfolding share_or_build
attach_keeps tables sound key file write cells is_key none =
    let right : Right = record { file = file; write = write; state = On } in
    let pair : Pair = pair_for file key in
    let after : CellMap = cond (fin.contains_key tables.cells pair) tables.cells (fin.insert tables.cells pair (padded cells)) in
    let grow : CellsGrow tables.cells after = grow-build tables.cells pair (padded cells) _ refl in
    let rest = λ (q : Key) (P : Right → Type 0) (on : OnRight P (fin.get tables.rights q)). attached_rest tables.rights key right q P none on in
    record {
      sixteen = sound.sixteen;
      keys = λ q r is. elim (cases_Bool (same_key q key)) [
        | inl same ↦ subst IsKey (sym (same_key-is q key same)) is_key
        | inr differs ↦ sound.keys q r (sym (other_key key_cmp_total tables.rights key right q differs) ∙ is)
      ];
      granted = λ process request is.
          let allowed = sound.granted process request is in
          subst (OnRight (Allows request)) (sym (rest request.key (Allows request) allowed)) allowed;
      held = λ process request completion is.
          let allowed = sound.granted process request (ap granted_of is) in
          let h = sound.held process request completion is in
          let entry = grown tables.cells after grow request.key request.index (cell_of completion) _ h.entry in
          record {
            entry = subst (λ (v : Option Right). IsOfEntry (cell_of completion) (lookup_under after request.key request.index v))
                (sym (rest request.key (Allows request) allowed)) entry;
            reaches = h.reaches;
            read = h.read;
            write = h.write;
          };
      cached = λ c line is.
          let h = sound.cached c line is in
          let same = sym (rest line.key (λ r. IsUnswept c r.state) h.right) in
          let entry = grown tables.cells after grow line.key line.index line.cell _ h.entry in
          record {
            right = subst (OnRight (λ r. IsUnswept c r.state)) same h.right;
            entry = subst (λ (v : Option Right). IsOfEntry line.cell (lookup_under after line.key line.index v)) same entry;
          };
    }

grow-drop : (rights : Rights) (pair : Pair) (cells : CellMap) (q : Key) (right : Right) → fin.get rights q ≡ Some right → IsKey q →
    (b : Bool) → nat_eq (users rights pair) 0 ≡ b → (index : ℕ) (cell : Cell) →
    IsOfEntry cell (entry_in (fin.get cells (pair_under q right)) index) →
    IsOfEntry cell (entry_in (fin.get (cond b (fin.remove cells pair) cells) (pair_under q right)) index)
grow-drop rights pair cells q right has is_key false used index cell is = is
grow-drop rights pair cells q right has is_key true unused index cell is = elim (cases_Bool (same_pair (pair_under q right) pair)) [
  | inl same ↦
      let some : 0 < users rights pair = subst (λ p. 0 < users rights p) (same_pair-is _ _ same) (user-counts rights q right has is_key) in
      let zero_users : users rights pair ≡ 0 = eqb-true _ _ unused in
      absurd (omega (arith, some, zero_users))
  | inr differs ↦
      let rest : fin.get (fin.remove cells pair) (pair_under q right) ≡ fin.get cells (pair_under q right) = get-remove pair_cmp_total cells pair _
      ∙ cond-false _ _ _ differs in
      subst (λ (v : Option Cells). IsOfEntry cell (entry_in v index)) (sym rest) is
]

grow-detach : (rights : Rights) (key : Key) (cells : CellMap) (gone : Option Right) (q : Key) (v : Option Right) → fin.get rights q ≡ v → IsKey q →
    (index : ℕ) (cell : Cell) → IsOfEntry cell (lookup_under cells q index v) →
    IsOfEntry cell (lookup_under (after_detach rights key gone cells) q index v)
grow-detach rights key cells None q v has is_key index cell is = is
grow-detach rights key cells (Some r) q None has is_key index cell is = is
grow-detach rights key cells (Some r) q (Some right) has is_key index cell is =
    grow-drop rights (pair_under key r) cells q right has is_key _ refl index cell is

-- a key that is not the detached one
detached_rest : (rights : Rights) (key q : Key) → same_key q key ≡ false → fin.get (fin.remove rights key) q ≡ fin.get rights q
detached_rest rights key q differs = get-remove key_cmp_total rights key q ∙ cond-false _ _ _ differs

key_of-right : (tables : TableState) → IsSound tables → (q : Key) (P : Right → Type 0) (v : Option Right) → fin.get tables.rights q ≡ v →
    OnRight P v → IsKey q
key_of-right tables sound q P None is on = absurd on
key_of-right tables sound q P (Some right) is on = sound.keys q right is

apart_from : (key q : Key) (P : Right → Type 0) (rights : Rights) → OnRight P (fin.get rights q) → (OnRight P (fin.get rights key) → ⊥) →
    same_key q key ≡ false
apart_from key q P rights on never = elim (cases_Bool (same_key q key)) [
  | inl same ↦ absurd (never (subst (λ k. OnRight P (fin.get rights k)) (same_key-is q key same) on))
  | inr differs ↦ differs
]

swept-closed : (request : Request) (right : Option Right) → IsAttachedIn IsSweptWhole right → OnRight (Allows request) right → ⊥
swept-closed request None s a = s
swept-closed request (Some r) s a = subst IsOpen s a.undrained

removed-was : (rights : Rights) (key q : Key) (r : Right) → fin.get (fin.remove rights key) q ≡ Some r → fin.get rights q ≡ Some r
removed-was rights key q r is = elim (cases_Bool (same_key q key)) [
  | inl same ↦ absurd (none-some r (sym (get-remove key_cmp_total rights key q ∙ cond-true _ _ _ same) ∙ is))
  | inr differs ↦ sym (detached_rest rights key q differs) ∙ is
]

pub detach_keeps : DetachKeeps
detach_keeps tables sound key swept =
    let rights : Rights = fin.remove tables.rights key in
    let gone : Option Right = fin.get tables.rights key in
    let cells : CellMap = after_detach rights key gone tables.cells in
    let stays = λ (q : Key) (differs : same_key q key ≡ false) (P : Right → Type 0) (on : OnRight P (fin.get tables.rights q)) (index : ℕ) (cell : Cell)
    (is : IsOfEntry cell (lookup tables q index)).
    let same : fin.get rights q ≡ fin.get tables.rights q = detached_rest tables.rights key q differs in
    let there = subst (λ (v : Option Right). IsOfEntry cell (lookup_under tables.cells q index v)) (sym same) is in
    grow-detach rights key tables.cells gone q (fin.get rights q) refl (key_of-right tables sound q P _ refl on) index cell there in
    record {
      sixteen = sound.sixteen;
      keys = λ q r is. sound.keys q r (removed-was tables.rights key q r is);
      granted = λ process request is.
          let allowed = sound.granted process request is in
          let differs = apart_from key request.key (Allows request) tables.rights allowed (swept-closed request gone swept) in
          subst (OnRight (Allows request)) (sym (detached_rest tables.rights key request.key differs)) allowed;
      held = λ process request completion is.
          let allowed = sound.granted process request (ap granted_of is) in
          let differs = apart_from key request.key (Allows request) tables.rights allowed (swept-closed request gone swept) in
          let h = sound.held process request completion is in
          record {
            entry = stays request.key differs (Allows request) allowed request.index
                (cell_of completion) h.entry;
            reaches = h.reaches;
            read = h.read;
            write = h.write;
          };
      cached = λ c line is.
          let h = sound.cached c line is in
          let below : c < LINES = omega (arith, line-within tables.lines c line is, sound.sixteen) in
          let differs = apart_from key line.key (λ r. IsUnswept c r.state) tables.rights h.right (all_swept-no_line c below gone swept) in
          record {
            right = subst (OnRight (λ r. IsUnswept c r.state)) (sym (detached_rest tables.rights key line.key differs)) h.right;
            entry = stays line.key differs (λ r. IsUnswept c r.state) h.right line.index line.cell h.entry;
          };
    }
