-- Lists that grow by the forms that are read.
-- A look-up in a value of a text, and in its data.
-- What is refused is no form.
use Rattle.std.proofs.Common.{◌≡◌, ℕ, ◌+◌, ◌<◌, length, take, get_or, List, [], ◌∷◌, ◌++◌, Option, Some, None, true, false, refl, sym, ap, ◌∙◌, append_assoc, subst, codes, ◌⊎◌, inl, inr, Bool, cond, option_map, Bor, bytes_eq, Global as Global_plain, true≢false, ◌≢◌, zero, suc, arith}
use Rattle.std.specs.Prelude.{IsSomeAnd, OnOk, Result, Ok, Err, IsErrAnd, IfErr}
use Rattle.std.proofs.lemmas.List.{take_more}
use Rattle.std.specs.declared.alloc.Global.{Global}
use Rattle.std.proofs.lemmas.Slice.Eq.{bytes_eq-Decides}
use Rattle.serde_json.specs.Data.{Data, Items, no_items, item, Members, no_members, put}
use Rattle.serde_json.specs.Find.{get, get_member, as_str, as_bool, as_array}
use Rattle.json.specs.Value.{value_view}
use Rattle.json.specs.declared.value.Value as value
use Rattle.json.specs.declared.value.Value.{Value as Value_plain}
use Rattle.serde_json.proofs.Views.{get_member-put, get_member-put_other}
use Rattle.json.specs.Json as json
use Rattle.json.specs.Find as find
use Rattle.bundle_syntax.specs.declared.kind.ExportMetadata.{ExportMetadata}
use Rattle.bundle_syntax.specs.declared.piece.Role.{Role}
use Rattle.bundle_syntax.specs.Item.{Item, Head, Open, Ident, Hole, Close}
use Rattle.bundle_json_form.specs.Plain.{seen, items_seen, plain, plain_members}
use Rattle.bundle_json_form.specs.declared.layout.Shape.{Shape}
use Rattle.bundle_json_form.specs.declared.role.NodePlace.{NodePlace}
use Rattle.bundle_json_form.specs.Form.{Field, node_fields, Tree, ident, hole, node, Fields, no_fields, in_field, Trees, no_trees, tree, tree_items, trees_items, fields_items, text_at, IsHeadOf, Reads, ReadsEach, ReadsFields, IsForm, AreForms, place_in, values, is_null, name, top}
use Rattle.bundle_json_form.specs.Layout.{present_fields, layout_field}
use Rattle.bundle_json_form.specs.Reading.{GrowsBy, AreFields, HasNoField, HasNoNode, HasNoNodes, RefusesReading}
use Rattle.bundle_json_form.specs.Kinds.{kind_of}
use Rattle.bundle_json_form.specs.declared.error.FormError.{FormError}
use Rattle.bundle_json_form.proofs.OfKind.{known, same_fields, same_place}
use Rattle.bundle_json_form.specs.declared.layout.Shape.TheVariants
use Rattle.bundle_json_form.specs.declared.layout.Field as r_field

-- ---- growth
pub append_nil : {A : Type 0} (xs : List A) → xs ++ [] ≡ xs
append_nil [] = refl
append_nil (x ∷ xs) = ap (λ r. x ∷ r) (append_nil xs)

abbrev pub Value : Type 0
Value = value.Value Global

-- One more at the end.

unfoldable pub items_then : Items → Data → Items
items_then no_items d = item d no_items
items_then (item x xs) d = item x (items_then xs d)

unfoldable pub trees_then : Trees → Tree → Trees
trees_then no_trees it = tree it no_trees
trees_then (tree x xs) it = tree x (trees_then xs it)

unfoldable pub fields_then : Fields → ℕ → Trees → Fields
fields_then no_fields number them = in_field number them no_fields
fields_then (in_field n x rest) number them = in_field n x (fields_then rest number them)

pub items_view-then : (vs : List Value) (v : Value) → items_seen (vs ++ v ∷ []) ≡ items_then (items_seen vs) (seen v)
unfolding items_then
items_view-then [] v = refl
items_view-then (x ∷ xs) v = ap (item (seen x)) (items_view-then xs v)

trees_items-then : (field : ℕ) (them : Trees) (it : Tree) → trees_items field (trees_then them it) ≡ trees_items field them ++ tree_items field it
unfolding trees_then
trees_items-then field no_trees it = append_nil (tree_items field it)
trees_items-then field (tree x xs) it = ap (λ r. tree_items field x ++ r) (trees_items-then field xs it) ∙ simp append_assoc

fields_items-then : (inside : Fields) (number : ℕ) (them : Trees) → fields_items (fields_then inside number them) ≡ fields_items inside ++ trees_items number them
unfolding fields_then
fields_items-then no_fields number them = append_nil (trees_items number them)
fields_items-then (in_field n x rest) number them = ap (λ r. trees_items n x ++ r) (fields_items-then rest number them) ∙ simp append_assoc

reads_each-then : (meta : ExportMetadata) (at : NodePlace) (ds : Items) (them : Trees) (d : Data) (it : Tree) → ReadsEach meta at ds them → Reads meta at d it → ReadsEach meta at (items_then ds d) (trees_then them it)
unfolding items_then trees_then
reads_each-then meta at no_items no_trees d it h last = (last, tt)
reads_each-then meta at no_items (tree x xs) d it h last = absurd h
reads_each-then meta at (item e es) no_trees d it h last = absurd h
reads_each-then meta at (item e es) (tree x xs) d it h last = (h.0, reads_each-then meta at es xs d it h.1 last)

reads_fields-then : (meta : ExportMetadata) (names : Role) (d : Data) (head : Head) (fs : List Field) (inside : Fields) (f : Field) (them : Trees)
    → ReadsFields meta names d head fs inside → IsSomeAnd (values f.shape (get f.key d)) (λ ds. ReadsEach meta (place_in head names d f) ds them)
    → ReadsFields meta names d head (fs ++ f ∷ []) (fields_then inside f.number them)
unfolding fields_then
reads_fields-then meta names d head [] no_fields f them h last = (refl, last, tt)
reads_fields-then meta names d head [] (in_field n x rest) f them h last = absurd h
reads_fields-then meta names d head (g ∷ gs) no_fields f them h last = absurd h
reads_fields-then meta names d head (g ∷ gs) (in_field n x rest) f them h last = (h.0, h.1, reads_fields-then meta names d head gs rest f them h.2 last)

-- What grew.

pub nothing_read : (meta : ExportMetadata) (at : NodePlace) (old : List Item) → GrowsBy (AreForms meta at no_items) old old
nothing_read meta at old = record { added = []; holds = record { them = no_trees; read = tt; listed = refl }; grown = sym (append_nil old) }

pub one_more : (meta : ExportMetadata) (at : NodePlace) (ds : Items) (d : Data) (old mid new : List Item)
    → GrowsBy (AreForms meta at ds) old mid → GrowsBy (IsForm meta at d) mid new → GrowsBy (AreForms meta at (items_then ds d)) old new
one_more meta at ds d old mid new so_far last = record {
  added = so_far.added ++ last.added;
  holds = record {
    them = trees_then so_far.holds.them last.holds.it;
    read = reads_each-then meta at ds so_far.holds.them d last.holds.it so_far.holds.read last.holds.read;
    listed = let e = trees_items-then at.field so_far.holds.them last.holds.it in let a = so_far.holds.listed in let b = last.holds.listed in cc;
  };
  grown = last.grown ∙ ap (λ r. r ++ last.added) so_far.grown ∙ simp append_assoc;
}

pub only_one : (meta : ExportMetadata) (at : NodePlace) (d : Data) (old new : List Item)
    → GrowsBy (IsForm meta at d) old new → GrowsBy (AreForms meta at (item d no_items)) old new
only_one meta at d old new it = record {
  added = it.added;
  holds = record { them = tree it.holds.it no_trees; read = (it.holds.read, tt); listed = it.holds.listed ∙ sym (append_nil _) };
  grown = it.grown;
}

pub hole_read : (meta : ExportMetadata) (at : NodePlace) (d : Data) (old new : List Item) → at.has_holes ≡ true → is_null d ≡ true → new ≡ old ++ Hole at.field ∷ [] → GrowsBy (IsForm meta at d) old new
hole_read meta at d old new holes is_nothing grown = record { added = Hole at.field ∷ []; holds = record { it = hole; read = (holes, is_nothing); listed = refl }; grown = grown }

pub ident_read : (meta : ExportMetadata) (at : NodePlace) (d : Data) (sym : List ℕ) (old new : List Item) → text_at (codes "type") d ≡ Some (codes "Ident") → text_at (codes "sym") d ≡ Some sym
    → new ≡ old ++ Ident at.field sym 0 at.ident ∷ [] → GrowsBy (IsForm meta at d) old new
ident_read meta at d sym old new named symbol grown = record {
  added = Ident at.field sym 0 at.ident ∷ [];
  holds = record { it = ident sym 0 at.ident; read = record { named = named; symbol = symbol; no_context = refl; in_role = refl }; listed = refl };
  grown = grown;
}

pub no_field_read : (meta : ExportMetadata) (names : Role) (d : Data) (head : Head) (old : List Item) → GrowsBy (AreFields meta names d head []) old old
no_field_read meta names d head old = record { added = []; holds = record { inside = no_fields; read = tt; listed = refl }; grown = sym (append_nil old) }

field_found : (meta : ExportMetadata) (names : Role) (d : Data) (head : Head) (fs : List Field) (f : Field) (old mid new : List Item) (found : Option Items) → values f.shape (get f.key d) ≡ found
    → GrowsBy (AreFields meta names d head fs) old mid → IsSomeAnd found (λ ds. GrowsBy (AreForms meta (place_in head names d f) ds) mid new)
    → GrowsBy (AreFields meta names d head (fs ++ f ∷ [])) old new
field_found meta names d head fs f old mid new None is so_far last = absurd last
field_found meta names d head fs f old mid new (Some ds) is so_far last = record {
  added = so_far.added ++ last.added;
  holds = record {
    inside = fields_then so_far.holds.inside f.number last.holds.them;
    read = reads_fields-then meta names d head fs so_far.holds.inside f last.holds.them so_far.holds.read (rw is last.holds.read);
    listed = let e = fields_items-then so_far.holds.inside f.number last.holds.them in let a = so_far.holds.listed in let b = last.holds.listed in cc;
  };
  grown = last.grown ∙ ap (λ r. r ++ last.added) so_far.grown ∙ simp append_assoc;
}

pub one_more_field : (meta : ExportMetadata) (names : Role) (d : Data) (head : Head) (fs : List Field) (f : Field) (old mid new : List Item)
    → GrowsBy (AreFields meta names d head fs) old mid → IsSomeAnd (values f.shape (get f.key d)) (λ ds. GrowsBy (AreForms meta (place_in head names d f) ds) mid new)
    → GrowsBy (AreFields meta names d head (fs ++ f ∷ [])) old new
one_more_field meta names d head fs f old mid new = field_found meta names d head fs f old mid new _ refl

pub node_read : (meta : ExportMetadata) (at : NodePlace) (d : Data) (head : Head) (them : List Field) (old opened mid new : List Item)
    → IsHeadOf meta d head → them ≡ node_fields head → opened ≡ old ++ Open at.field head ∷ [] → GrowsBy (AreFields meta at.names d head them) opened mid → new ≡ mid ++ Close ∷ []
    → GrowsBy (IsForm meta at d) old new
node_read meta at d head them old opened mid new is_head all begun inside ended = record {
  added = Open at.field head ∷ (inside.added ++ Close ∷ []);
  holds = record {
    it = node head inside.holds.inside;
    read = (is_head, subst (λ fs. ReadsFields meta at.names d head fs inside.holds.inside) all inside.holds.read);
    listed = ap (λ r. Open at.field head ∷ (r ++ Close ∷ [])) inside.holds.listed;
  };
  grown = ended ∙ ap (λ r. r ++ Close ∷ []) (inside.grown ∙ ap (λ r. r ++ inside.added) begun) ∙ simp append_assoc;
}

-- the forms that are in a field were added
abbrev pub AddsField : ExportMetadata → NodePlace → Shape → Option Data → List Item → List Item → Type 0
AddsField meta at shape found old new = IsSomeAnd (values shape found) (λ ds. GrowsBy (AreForms meta at ds) old new)

-- Steps of the loops.

pub list_step : (meta : ExportMetadata) (at : NodePlace) (vs : List Value) (i : ℕ) (v : Value) (old mid new : List Item) → i < length vs → v ≡ get_or vs i v
    → GrowsBy (AreForms meta at (items_seen (take i vs))) old mid → GrowsBy (IsForm meta at (seen v)) mid new → GrowsBy (AreForms meta at (items_seen (take (i + 1) vs))) old new
list_step meta at vs i v old mid new within is so_far last =
    let more : items_seen (take (i + 1) vs) ≡ items_then (items_seen (take i vs)) (seen v)
    = ap items_seen (take_more vs i v within) ∙ items_view-then (take i vs) (get_or vs i v) ∙ ap (λ x. items_then (items_seen (take i vs)) (seen x)) (sym is) in
    rw more (one_more meta at (items_seen (take i vs)) (seen v) old mid new so_far last)

listed-then_some : (fs : List (Option r_field.Field)) (f : r_field.Field) → present_fields (fs ++ Some f ∷ []) ≡ present_fields fs ++ layout_field f ∷ []
listed-then_some [] f = refl
listed-then_some (None ∷ fs) f = listed-then_some fs f
listed-then_some (Some g ∷ fs) f = ap (λ r. layout_field g ∷ r) (listed-then_some fs f)

listed-then_none : (fs : List (Option r_field.Field)) → present_fields (fs ++ None ∷ []) ≡ present_fields fs
listed-then_none [] = refl
listed-then_none (None ∷ fs) = listed-then_none fs
listed-then_none (Some g ∷ fs) = ap (λ r. layout_field g ∷ r) (listed-then_none fs)

pub field_step : (meta : ExportMetadata) (names : Role) (d : Data) (head : Head) (fs : List (Option r_field.Field)) (i : ℕ) (f : r_field.Field) (old mid new : List Item)
    → i < length fs → get_or fs i None ≡ Some f → GrowsBy (AreFields meta names d head (present_fields (take i fs))) old mid
    → AddsField meta (place_in head names d (layout_field f)) f.shape (get f.key.now d) mid new
    → GrowsBy (AreFields meta names d head (present_fields (take (i + 1) fs))) old new
field_step meta names d head fs i f old mid new within is so_far last =
    let more : present_fields (take (i + 1) fs) ≡ present_fields (take i fs) ++ layout_field f ∷ []
    = ap present_fields (take_more fs i None within) ∙ ap (λ x. present_fields (take i fs ++ x ∷ [])) is ∙ listed-then_some (take i fs) f in
    rw more (one_more_field meta names d head (present_fields (take i fs)) (layout_field f) old mid new so_far last)

pub no_field_step : (meta : ExportMetadata) (names : Role) (d : Data) (head : Head) (fs : List (Option r_field.Field)) (i : ℕ) (old new : List Item)
    → i < length fs → get_or fs i None ≡ None → GrowsBy (AreFields meta names d head (present_fields (take i fs))) old new → GrowsBy (AreFields meta names d head (present_fields (take (i + 1) fs))) old new
no_field_step meta names d head fs i old new within is so_far =
    let more : present_fields (take (i + 1) fs) ≡ present_fields (take i fs)
    = ap present_fields (take_more fs i None within) ∙ ap (λ x. present_fields (take i fs ++ x ∷ [])) is ∙ listed-then_none (take i fs) in
    rw more so_far

-- What stands under a key.

pub on_ok : {T E : Type 0} {P Q : Type 0} (r : Result T E) → (P → Q) → OnOk r P → OnOk r Q
on_ok (Ok x) f h = f h
on_ok (Err e) f h = h

pub none_there : (meta : ExportMetadata) (at : NodePlace) (shape : Shape) (found : Option Data) (old : List Item) → (shape ≡ TheVariants.Optional) ⊎ ((shape ≡ TheVariants.List) ⊎ (shape ≡ TheVariants.Places)) → found ≡ None → AddsField meta at shape found old old
none_there meta at shape found old (inl other) is = rw (other, is) (nothing_read meta at old)
none_there meta at shape found old (inr (inl other)) is = rw (other, is) (nothing_read meta at old)
none_there meta at shape found old (inr (inr other)) is = rw (other, is) (nothing_read meta at old)

pub one_there : (meta : ExportMetadata) (at at' : NodePlace) (d : Data) (shape : Shape) (found : Option Data) (old new : List Item) → shape ≡ TheVariants.One → found ≡ Some d → at ≡ at'
    → GrowsBy (IsForm meta at d) old new → AddsField meta at' shape found old new
one_there meta at at' d shape found old new is_one is same it = rw (is_one, is, ← same) (only_one meta at d old new it)

pub optional_there : (meta : ExportMetadata) (at at' : NodePlace) (d : Data) (shape : Shape) (found : Option Data) (old new : List Item) → shape ≡ TheVariants.Optional → found ≡ Some d → is_null d ≡ false → at ≡ at'
    → GrowsBy (IsForm meta at d) old new → AddsField meta at' shape found old new
optional_there meta at at' d shape found old new is_optional is given same it = rw (is_optional, is, given, ← same) (only_one meta at d old new it)

pub null_there : (meta : ExportMetadata) (at : NodePlace) (d : Data) (shape : Shape) (found : Option Data) (old : List Item) → shape ≡ TheVariants.Optional → found ≡ Some d → is_null d ≡ true
    → AddsField meta at shape found old old
null_there meta at d shape found old is_optional is nothing = rw (is_optional, is, nothing) (nothing_read meta at old)

-- ---- plain
abbrev later : Option Data → Option Data → Option Data
later None earlier = earlier
later (Some d) earlier = Some d

one_put_at : (b : Bool) (k l : List ℕ) (j : json.Json) (found : Members) → bytes_eq l k ≡ b → get_member k (put l (plain j) found) ≡ later (option_map plain (cond b (Some j) None)) (get_member k found)
one_put_at true k l j found e = let same : l ≡ k = (bytes_eq-Decides l k).0 e in rw (same) (get_member-put k (plain j) found)
one_put_at false k l j found e = get_member-put_other k l (plain j) found (λ h. true≢false (sym ((bytes_eq-Decides l k).1 (sym h)) ∙ e))

last_holds : (o : Option json.Json) (p : Option json.Json) (x y : Option Data) → x ≡ later (option_map plain p) y → later (option_map plain o) x ≡ later (option_map plain (find.later_or o p)) y
last_holds None p x y e = e
last_holds (Some j) p x y e = refl

get_member-plain : (k : List ℕ) (ms : json.Members) (found : Members) → get_member k (plain_members ms found) ≡ later (option_map plain (find.get_member k ms)) (get_member k found)
get_member-plain k json.no_members found = refl
get_member-plain k (json.member l j ms) found =
    get_member-plain k ms (put l (plain j) found) ∙ last_holds (find.get_member k ms) (cond (bytes_eq l k) (Some j) None) _ _ (one_put_at (bytes_eq l k) k l j found refl)

none_later : (o : Option Data) → later o None ≡ o
none_later None = refl
none_later (Some d) = refl

pub get-plain : (k : List ℕ) (j : json.Json) → get k (plain j) ≡ option_map plain (find.get k j)
get-plain k json.null = refl
get-plain k (json.boolean b) = refl
get-plain k (json.number s) = refl
get-plain k (json.string s) = refl
get-plain k (json.array js) = refl
get-plain k (json.object ms) = get_member-plain k ms no_members ∙ none_later _

pub as_str-plain : (j : json.Json) → as_str (plain j) ≡ find.as_str j
as_str-plain json.null = refl
as_str-plain (json.boolean b) = refl
as_str-plain (json.number s) = refl
as_str-plain (json.string s) = refl
as_str-plain (json.array js) = refl
as_str-plain (json.object ms) = refl

pub as_bool-plain : (j : json.Json) → as_bool (plain j) ≡ find.as_bool j
as_bool-plain json.null = refl
as_bool-plain (json.boolean b) = refl
as_bool-plain (json.number s) = refl
as_bool-plain (json.string s) = refl
as_bool-plain (json.array js) = refl
as_bool-plain (json.object ms) = refl

pub is_null-plain : (j : json.Json) → is_null (plain j) ≡ find.is_null j
is_null-plain json.null = refl
is_null-plain (json.boolean b) = refl
is_null-plain (json.number s) = refl
is_null-plain (json.string s) = refl
is_null-plain (json.array js) = refl
is_null-plain (json.object ms) = refl

pub seen_of : (r : Option (Bor (Value_plain Global_plain))) → option_map (λ it. seen it.now) r ≡ option_map plain (option_map (λ it. value_view it.now) r)
seen_of None = refl
seen_of (Some it) = refl

-- ---- refusals

-- One reason for another.

pub for_that : {P Q : Type 0} (refusal : FormError) → (P → Q) → RefusesReading P refusal → RefusesReading Q refusal
for_that refusal f (inl memory) = inl memory
for_that refusal f (inr reason) = inr (f reason)

pub on_err : {T P Q : Type 0} (r : Result T FormError) → (P → Q) → IfErr r (RefusesReading P) → IfErr r (RefusesReading Q)
on_err (Ok x) f h = h
on_err (Err refusal) f h = for_that refusal f h

pub refused_for : {T Q : Type 0} (r : Result T FormError) (e : FormError) → IsErrAnd r (λ x. x ≡ e) → Q
    → IfErr r (RefusesReading Q)
refused_for (Ok x) e is reason = tt
refused_for (Err x) e is reason = inr reason

pub handed : {T P Q : Type 0} (r : Result T FormError) (e : FormError) → IsErrAnd r (λ x. x ≡ e) → (P → Q)
    → RefusesReading P e → IfErr r (RefusesReading Q)
handed (Ok x) e is f h = tt
handed {Q = Q} (Err x) e is f h = subst (RefusesReading Q) (sym is) (for_that e f h)

-- A node.

pub another_name : (found : Option (List ℕ)) (word it : List ℕ) → found ≡ Some word → false ≡ bytes_eq word it
    → found ≢ Some it
another_name found word it is other h =
    let same : word ≡ it = cc in true≢false (sym ((bytes_eq-Decides word it).1 same) ∙ sym other)

-- no node has the name of an identifier
pub not_ident : (head : Head) → name head ≢ codes "Ident"
unfolding kind_of
not_ident head is =
    let e : None ≡ Some (codes "Ident")
    = ap (λ n. option_map name (kind_of n)) (sym is) ∙ known head ∙ ap Some is in cc

pub no_symbol : (meta : ExportMetadata) (at : NodePlace) (d : Data)
    → text_at (codes "type") d ≡ Some (codes "Ident")
    → ((it : List ℕ) → text_at (codes "sym") d ≢ Some it) → (it : Tree) → Reads meta at d it → it ≡ hole
no_symbol meta at d named none (ident sym ctxt role) reads = absurd (none _ reads.symbol)
no_symbol meta at d named none hole reads = refl
no_symbol meta at d named none (node head inside) reads =
    let e = reads.0.named in let same : name head ≡ codes "Ident" = cc in absurd (not_ident head same)

-- fields that are read for a node are read for one of the same name
fields_too : (meta : ExportMetadata) (names : Role) (d : Data) (one other : Head) (fs : List Field) (inside : Fields)
    → name one ≡ name other → ReadsFields meta names d one fs inside → ReadsFields meta names d other fs inside
fields_too meta names d one other [] no_fields same h = h
fields_too meta names d one other [] (in_field number them rest) same h = absurd h
fields_too meta names d one other (f ∷ fs) no_fields same h = absurd h
fields_too meta names d one other (f ∷ fs) (in_field number them rest) same h = (
  h.0,
  subst (λ (at : NodePlace). IsSomeAnd (values f.shape (get f.key d)) (λ ds. ReadsEach meta at ds them))
      (same_place one other names d f same) h.1,
  fields_too meta names d one other fs rest same h.2,
)

-- what is read for all fields is read for each
in_one : (meta : ExportMetadata) (names : Role) (d : Data) (head : Head)
    (fs : List (Option r_field.Field)) (i : ℕ) (f : r_field.Field) (inside : Fields)
    → i < length fs → get_or fs i None ≡ Some f → ReadsFields meta names d head (present_fields fs) inside
    → (them : Trees) × IsSomeAnd (values f.shape (get f.key.now d))
    (λ ds. ReadsEach meta (place_in head names d (layout_field f)) ds them)
in_one meta names d head [] i f inside within is h = absurd (omega arith)
in_one meta names d head (None ∷ fs) zero f inside within is h = cc
in_one meta names d head (None ∷ fs) (suc i) f inside within is h =
    in_one meta names d head fs i f inside (omega arith) is h
in_one meta names d head (Some g ∷ fs) i f no_fields within is h = absurd h
in_one meta names d head (Some g ∷ fs) zero f (in_field number them rest) within is h =
    let same : g ≡ f = cc in (
      them,
      subst
          (λ (x : r_field.Field). IsSomeAnd (values x.shape (get x.key.now d))
          (λ ds. ReadsEach meta (place_in head names d (layout_field x)) ds them))
          same h.1,
    )
in_one meta names d head (Some g ∷ fs) (suc i) f (in_field number them rest) within is h =
    in_one meta names d head fs i f rest (omega arith) is h.2

pub no_field : (meta : ExportMetadata) (at : NodePlace) (d : Data) (head : Head)
    (all : List (Option r_field.Field)) (i : ℕ) (f : r_field.Field)
    → text_at (codes "type") d ≢ Some (codes "Ident") → IsHeadOf meta d head → present_fields all ≡ node_fields head
    → i < length all → get_or all i None ≡ Some f
    → HasNoField meta (place_in head at.names d (layout_field f)) f.shape (get f.key.now d)
    → (it : Tree) → Reads meta at d it → it ≡ hole
no_field meta at d head all i f named is its within at_i none (ident sym ctxt role) reads = absurd (named reads.named)
no_field meta at d head all i f named is its within at_i none hole reads = refl
no_field meta at d head all i f named is its within at_i none (node other inside) reads =
    let e = reads.0.named in let e' = is.named in let same : name other ≡ name head = cc in
    let there = subst (λ (fs : List Field). ReadsFields meta at.names d other fs inside)
    (same_fields meta d other head reads.0 is same ∙ sym its) reads.1 in
    let found = in_one meta at.names d head all i f inside within at_i
    (fields_too meta at.names d other head (present_fields all) inside same there) in
    absurd (none found.0 found.1)

-- What stands under a key.

pub no_list_there : (meta : ExportMetadata) (at at' : NodePlace) (d : Data) (ds : Items) (shape : Shape) (found : Option Data)
    → (shape ≡ TheVariants.List) ⊎ (shape ≡ TheVariants.Places) → found ≡ Some d → as_array d ≡ Some ds → at ≡ at'
    → HasNoNodes meta at ds → HasNoField meta at' shape found
no_list_there meta at at' d ds shape found (inl list) is items same none = rw (list, is, items, ← same) none
no_list_there meta at at' d ds shape found (inr places) is items same none = rw (places, is, items, ← same) none

-- What stands in a list.

of_one : (meta : ExportMetadata) (at : NodePlace) (vs : List Value) (i : ℕ) (v : Value) (them : Trees)
    → i < length vs → v ≡ get_or vs i v → ReadsEach meta at (items_seen vs) them → (it : Tree) × Reads meta at (seen v) it
of_one meta at [] i v them within is h = absurd (omega arith)
of_one meta at (x ∷ xs) i v no_trees within is h = absurd h
of_one meta at (x ∷ xs) zero v (tree it rest) within is h = (it, subst (λ (y : Value). Reads meta at (seen y) it) (sym is) h.0)
of_one meta at (x ∷ xs) (suc i) v (tree it rest) within is h = of_one meta at xs i v rest (omega arith) is h.1

pub no_item : (meta : ExportMetadata) (at : NodePlace) (vs : List Value) (i : ℕ) (v : Value)
    → i < length vs → v ≡ get_or vs i v → (at.has_holes ≡ false) ⊎ (is_null (seen v) ≡ false)
    → HasNoNode meta at (seen v) → HasNoNodes meta at (items_seen vs)
no_item meta at vs i v within is whole none = λ them reads.
    let found = of_one meta at vs i v them within is reads in
    let h = subst (λ (x : Tree). Reads meta at (seen v) x) (none found.0 found.1) found.1 in
    elim whole [ inl no_holes ↦ true≢false (sym h.0 ∙ no_holes) | inr given ↦ true≢false (sym h.1 ∙ given) ]

-- The whole.

pub no_forms : (meta : ExportMetadata) (at : NodePlace) (d : Data) (ds : Items) → at ≡ top → as_array d ≡ Some ds
    → HasNoNodes meta at ds → (list : List Item) → ¬ IsSomeAnd (as_array d) (λ forms. AreForms meta top forms list)
no_forms meta at d ds same is none list =
    rw is (λ (forms : AreForms meta top ds list).
    subst (λ (x : NodePlace). HasNoNodes meta x ds) same none forms.them forms.read)
