-- A walk over a list that fits makes of it what `Becomes` says.
use Rattle.std.proofs.Common.{◌≡◌, ◌∙◌, ℕ, ◌==◌, ◌&&◌, Bool, true, false, not as negated, List, [], ◌∷◌, ◌++◌, append_assoc, Option, Some, None, is_none, refl, sym, ap, subst, if◌then◌else◌}
use Rattle.std.proofs.lemmas.Bool.{false≢true}
use Rattle.std.proofs.lemmas.List.{append-nil}
use Rattle.bundle_syntax.specs.declared.kind.ExportMetadata.{ExportMetadata}
use Rattle.bundle_syntax.specs.declared.kind.MetaPropKind.TheVariants as p
use Rattle.bundle_syntax.specs.declared.kind.VarDeclKind.{VarDeclKind}
use Rattle.bundle_syntax.specs.declared.piece.Role.{Role}
use Rattle.bundle_syntax.specs.declared.piece.Role.TheVariants as r
use Rattle.bundle_syntax.specs.Item as h
use Rattle.bundle_syntax.specs.Item.{Item, Head}
use Rattle.bundle_rules.specs.Nodes.{Text}
use Rattle.bundle_rules.specs.Idents.{Ident}
use Rattle.bundle_rules.specs.Rebuilds.{Change, plain_key, spells_out}
use Rattle.bundle_tree_places.specs.Edits.{Around, Anywhere, InObject, InSpecifier, node, is_occurrence, around_in, is_second_plain, in_its_place, renamed, binding, pattern_in_its_place}
use Rattle.bundle_tree_rebuild.specs.declared.kind.NodeKind.TheVariants as k
use Rattle.bundle_tree_rebuild.specs.declared.kind.Enclosing.{Enclosing}
use Rattle.bundle_tree_rebuild.specs.declared.kind.Enclosing.TheVariants as s
use Rattle.bundle_tree_rebuild.specs.Work.{Work, upcoming, after, next}
use Rattle.bundle_tree_rebuild.specs.Becomes as b
use Rattle.bundle_tree_rebuild.specs.Becomes.{Becomes, Reworked, begins_with_member, keeps_first, kept_notes, no_notes, name_for_member, name_for_call, reference, stays}
use Rattle.bundle_tree_rebuild.specs.Fits as f
use Rattle.bundle_tree_rebuild.specs.Fits.{Fits, is_anywhere, is_empty, is_fit, begins_with_hole, has_member_in_1}
use Rattle.bundle_tree_rebuild.specs.Walked.{Walking, kind_of, new_notes, noted, begun, kept, member, call, meta, pair, has_default_ahead, is_alone, end_of, behind, turned, walked, fresh}
use Rattle.bundle_tree_rebuild.proofs.Lookahead.{member_so, call_so}

-- a walk on its way
abbrev pub on : Work → Option ExportMetadata → Enclosing → List Enclosing → List Item → Walking
on w n e o m = record { work = w; notes = n; enclosing = e; outer = o; made = m }

-- what may be around nodes that are made anew
pub data Live : Around → Enclosing → Type 0 where
  in_plain : Live Anywhere s.Plain
  in_default : Live Anywhere s.Default
  in_object : Live InObject s.Object
  in_specifier : Live InSpecifier s.Specifier

-- these become others, whatever comes behind them
pub record Walks (around : Around) (w : Work) (n : Option ExportMetadata) (e : Enclosing) (o : List Enclosing) (m items rest : List Item) : Type 0 where
  pub left : Work
  pub made : List Item
  pub goes : walked (on w n e o m) (items ++ rest) ≡ walked (on left n e o (m ++ made)) rest
  pub by : Becomes around w items made left
  pub same : left.clears_notes ≡ w.clears_notes
  pub full : is_empty made ≡ is_empty items

abbrev pub Goes : Around → List Item → Type 0
Goes around items =
    (w : Work) (n : Option ExportMetadata) (e : Enclosing) (o : List Enclosing) (m : List Item) → Live around e → n ≡ new_notes w.clears_notes → (rest : List Item) → Walks around w n e o m items rest

-- One after the other.

both_empty : (a b c d : List Item) → is_empty a ≡ is_empty c → is_empty b ≡ is_empty d → is_empty (a ++ b) ≡ is_empty (c ++ d)
both_empty [] b [] d first second = second
both_empty [] b (x ∷ c) d first second = absurd (false≢true (sym first))
both_empty (x ∷ a) b [] d first second = absurd (false≢true first)
both_empty (x ∷ a) b (y ∷ c) d first second = refl

joined : {around : Around} {w : Work} {n : Option ExportMetadata} {e : Enclosing} {o : List Enclosing} {m front items rest : List Item} → Walks around w n e o m front (items ++ rest) → Goes around items → Live around e → n ≡ new_notes w.clears_notes → Walks around w n e o m (front ++ items) rest
joined {around} {w} {n} {e} {o} {m} {front} {items} {rest} one more live notes =
    let two : Walks around one.left n e o (m ++ one.made) items rest = more one.left n e o (m ++ one.made) live (notes ∙ ap new_notes (sym one.same)) rest in
    record {
      left = two.left;
      made = one.made ++ two.made;
      goes = ap (walked (on w n e o m)) (append_assoc front items rest) ∙ (one.goes ∙ (two.goes ∙ ap (λ l. walked (on two.left n e o l) rest) (append_assoc m one.made two.made)));
      by = b.Joined one.by two.by;
      same = two.same ∙ one.same;
      full = both_empty one.made two.made front items one.full two.full;
    }

nothing : {around : Around} → Goes around []
nothing w n e o m live notes rest = record {
  left = w;
  made = [];
  goes = ap (λ l. walked (on w n e o l) rest) (sym (append-nil m));
  by = b.Nothing;
  same = refl;
  full = refl;
}

-- Holes and names.

hole_turned : {around : Around} (w : Work) (n : Option ExportMetadata) (e : Enclosing) (o : List Enclosing) (m : List Item) → Live around e → (field : ℕ) (ahead : List Item) → turned (on w n e o m) (h.Hole field) ahead ≡ on w n e o (m ++ h.Hole field ∷ [])
hole_turned w n _ o m in_plain field ahead = refl
hole_turned w n _ o m in_default field ahead = refl
hole_turned w n _ o m in_object field ahead = refl
hole_turned w n _ o m in_specifier field ahead = refl

hole : {around : Around} {w : Work} {n : Option ExportMetadata} {e : Enclosing} {o : List Enclosing} {m : List Item} → Live around e → (field : ℕ) (rest : List Item) → Walks around w n e o m (h.Hole field ∷ []) rest
hole {w = w} {n = n} {e = e} {o = o} {m = m} live field rest = record {
  left = w;
  made = h.Hole field ∷ [];
  goes = ap (λ it. walked it rest) (hole_turned w n e o m live field rest);
  by = b.Hole field;
  same = refl;
  full = refl;
}

word_turned : {around : Around} (w : Work) (n : Option ExportMetadata) (e : Enclosing) (o : List Enclosing) (m : List Item) → Live around e → (field : ℕ) (x : Text) (ctxt : ℕ) (ahead : List Item) → turned (on w n e o m) (h.Ident field x ctxt r.Word) ahead ≡ on w n e o (m ++ h.Ident field x ctxt r.Word ∷ [])
word_turned w n _ o m in_plain field x ctxt ahead = refl
word_turned w n _ o m in_default field x ctxt ahead = refl
word_turned w n _ o m in_object field x ctxt ahead = refl
word_turned w n _ o m in_specifier field x ctxt ahead = refl

name_turned : {around : Around} (w : Work) (n : Option ExportMetadata) (e : Enclosing) (o : List Enclosing) (m : List Item) → Live around e → (field : ℕ) (x : Text) (ctxt : ℕ) (role : Role) → is_occurrence role ≡ true → (ahead : List Item) → turned (on w n e o m) (h.Ident field x ctxt role) ahead ≡ on (after w) n e o (m ++ in_its_place around (next w x) field x ctxt role)
name_turned w n e o m live field x ctxt r.Word occurs ahead = absurd (false≢true occurs)
name_turned w n _ o m in_plain field x ctxt r.Binding occurs ahead = refl
name_turned w n _ o m in_default field x ctxt r.Binding occurs ahead = refl
name_turned w n _ o m in_object field x ctxt r.Binding occurs ahead = refl
name_turned w n _ o m in_specifier field x ctxt r.Binding occurs ahead = refl
name_turned w n _ o m in_plain field x ctxt r.Reference occurs ahead = refl
name_turned w n _ o m in_default field x ctxt r.Reference occurs ahead = refl
name_turned w n _ o m in_object field x ctxt r.Reference occurs ahead = refl
name_turned w n _ o m in_specifier field x ctxt r.Reference occurs ahead = refl

either_full : (so : Bool) (a b : List Item) → is_empty a ≡ false → is_empty b ≡ false → is_empty (if so then a else b) ≡ false
either_full true a b one two = one
either_full false a b one two = two

place_full : (around : Around) (change : Option Change) (field : ℕ) (x : Text) (ctxt : ℕ) (role : Role) → is_empty (in_its_place around change field x ctxt role) ≡ false
place_full Anywhere change field x ctxt role = refl
place_full InObject change field x ctxt role = either_full (spells_out change) _ _ refl refl
place_full InSpecifier change field x ctxt role = either_full (spells_out change) _ _ refl refl

occurrence : {around : Around} {w : Work} {n : Option ExportMetadata} {e : Enclosing} {o : List Enclosing} {m : List Item} → Live around e → (field : ℕ) (x : Text) (ctxt : ℕ) (role : Role) → is_occurrence role ≡ true → (rest : List Item) → Walks around w n e o m (h.Ident field x ctxt role ∷ []) rest
occurrence {around = around} {w = w} {n = n} {e = e} {o = o} {m = m} live field x ctxt role occurs rest = record {
  left = after w;
  made = in_its_place around (next w x) field x ctxt role;
  goes = ap (λ it. walked it rest) (name_turned w n e o m live field x ctxt role occurs rest);
  by = b.Name around field x ctxt role occurs;
  same = refl;
  full = place_full around (next w x) field x ctxt role;
}

name : {around : Around} {w : Work} {n : Option ExportMetadata} {e : Enclosing} {o : List Enclosing} {m : List Item} → Live around e → (field : ℕ) (x : Text) (ctxt : ℕ) (role : Role) (rest : List Item) → Walks around w n e o m (h.Ident field x ctxt role ∷ []) rest
name live field x ctxt r.Binding rest = occurrence live field x ctxt r.Binding refl rest
name live field x ctxt r.Reference rest = occurrence live field x ctxt r.Reference refl rest
name {w = w} {n = n} {e = e} {o = o} {m = m} live field x ctxt r.Word rest = record {
  left = w;
  made = h.Ident field x ctxt r.Word ∷ [];
  goes = ap (λ it. walked it rest) (word_turned w n e o m live field x ctxt rest);
  by = b.Word field x ctxt r.Word refl;
  same = refl;
  full = refl;
}

-- Nodes that stay.

shape : (m : List Item) (x : Item) (inside : List Item) → ((m ++ x ∷ []) ++ inside) ++ h.Close ∷ [] ≡ m ++ (x ∷ (inside ++ h.Close ∷ []))
shape m x inside = append_assoc (m ++ x ∷ []) inside (h.Close ∷ []) ∙ append_assoc m (x ∷ []) (inside ++ h.Close ∷ [])

-- a node begins in one enclosing, and what follows it stands in another
node_goes : {around : Around} (w : Work) (n : Option ExportMetadata) (e e' e'' : Enclosing) (o : List Enclosing) (m inside tail : List Item) (field : ℕ) (head head' : Head) → turned (on w n e o m) (h.Open field head) (inside ++ h.Close ∷ tail) ≡ on w n e' (e'' ∷ o) (m ++ h.Open field head' ∷ []) → end_of e' ≡ h.Close ∷ [] → (inner : Walks around w n e' (e'' ∷ o) (m ++ h.Open field head' ∷ []) inside (h.Close ∷ tail)) → walked (on w n e o m) (node field head inside ++ tail) ≡ walked (on inner.left n e'' o (m ++ node field head' inner.made)) tail
node_goes {around} w n e e' e'' o m inside tail field head head' turn end inner =
    ap (λ l. walked (on w n e o m) (h.Open field head ∷ l)) (append_assoc inside (h.Close ∷ []) tail)
    ∙ (ap (λ it. walked it (inside ++ h.Close ∷ tail)) turn
    ∙ (inner.goes
    ∙ (ap (λ l. walked (on inner.left n e'' o (((m ++ h.Open field head' ∷ []) ++ inner.made) ++ l)) tail) end
    ∙ ap (λ l. walked (on inner.left n e'' o l) tail) (shape m (h.Open field head') inner.made))))

node_kept : {around beside : Around} {w : Work} {n : Option ExportMetadata} {e e' : Enclosing} {o : List Enclosing} {m inside tail : List Item} {field : ℕ} {head head' : Head} → turned (on w n e o m) (h.Open field head) (inside ++ h.Close ∷ tail) ≡ on w n e' (e ∷ o) (m ++ h.Open field head' ∷ []) → end_of e' ≡ h.Close ∷ [] → (inner : Walks around w n e' (e ∷ o) (m ++ h.Open field head' ∷ []) inside (h.Close ∷ tail)) → Becomes beside w (node field head inside) (node field head' inner.made) inner.left → Walks beside w n e o m (node field head inside) tail
node_kept {w = w} {n = n} {e = e} {e' = e'} {o = o} {m = m} {inside = inside} {tail = tail} {field = field} {head = head} {head' = head'} turn end inner becomes = record {
  left = inner.left;
  made = node field head' inner.made;
  goes = node_goes w n e e' e o m inside tail field head head' turn end inner;
  by = becomes;
  same = inner.same;
  full = refl;
}

-- a node begins where nodes are made anew
opening : {around : Around} (w : Work) (n : Option ExportMetadata) (e : Enclosing) (o : List Enclosing) (m : List Item) → Live around e → (field : ℕ) (head : Head) (ahead : List Item) → turned (on w n e o m) (h.Open field head) ahead ≡ begun (kind_of head) (on w n e o m) field head ahead
opening w n _ o m in_plain field head ahead = refl
opening w n _ o m in_default field head ahead = refl
opening w n _ o m in_object field head ahead = refl
opening w n _ o m in_specifier field head ahead = refl

keeping : {around : Around} (w : Work) (n : Option ExportMetadata) (e : Enclosing) (o : List Enclosing) (m : List Item) → Live around e → (field : ℕ) (head : Head) (e' : Enclosing) → kept (on w n e o m) field head e' ≡ on w n e' (e ∷ o) (m ++ h.Open field (noted n head) ∷ [])
keeping w n _ o m in_plain field head e' = refl
keeping w n _ o m in_default field head e' = refl
keeping w n _ o m in_object field head e' = refl
keeping w n _ o m in_specifier field head e' = refl

lasting : {around : Around} {e : Enclosing} → Live around e → behind e ≡ e
lasting in_plain = refl
lasting in_default = refl
lasting in_object = refl
lasting in_specifier = refl

-- the node that is kept
keeping_as : {around : Around} (w : Work) (n : Option ExportMetadata) (e : Enclosing) (o : List Enclosing) (m : List Item) → Live around e → (field : ℕ) (head head' : Head) (e' : Enclosing) → noted n head ≡ head' → kept (on w n e o m) field head e' ≡ on w n e' (e ∷ o) (m ++ h.Open field head' ∷ [])
keeping_as w n e o m live field head head' e' is = keeping w n e o m live field head e' ∙ ap (λ it. on w n e' (e ∷ o) (m ++ h.Open field it ∷ [])) is

-- What a node is.

-- an ordinary node
pub record Plain (head : Head) : Type 0 where
  pub kind_is : kind_of head ≡ k.Ordinary
  pub stays_is : (w : Work) (inside : List Item) → stays w head inside ≡ true
  pub around_is : (inside : List Item) → around_in head inside ≡ Anywhere
  pub noted_is : (notes : ExportMetadata) → noted (Some notes) head ≡ head

-- an assignment or an optional chain
pub record Assigns (head : Head) : Type 0 where
  pub kind_is : kind_of head ≡ k.Assignment
  pub stays_is : (w : Work) (inside : List Item) → stays w head inside ≡ negated (begins_with_member inside)
  pub around_is : (inside : List Item) → around_in head inside ≡ Anywhere
  pub noted_is : (notes : ExportMetadata) → noted (Some notes) head ≡ head
  pub keeps_is : (field : ℕ) → keeps_first head field ≡ (field == 1)

-- an import or export specifier
pub record Specifies (head : Head) : Type 0 where
  pub kind_is : kind_of head ≡ k.Specifier
  pub stays_is : (w : Work) (inside : List Item) → stays w head inside ≡ is_second_plain inside
  pub none_is : around_in head [] ≡ Anywhere
  pub one_is : (x : Item) → around_in head (x ∷ []) ≡ InSpecifier
  pub more_is : (x y : Item) (rest : List Item) → around_in head (x ∷ y ∷ rest) ≡ Anywhere
  pub noted_is : (notes : ExportMetadata) → noted (Some notes) head ≡ head

pub data Class : Head → Type 0 where
  object : Class h.ObjectLit
  specifies : {head : Head} → Specifies head → Class head
  assigns : {head : Head} → Assigns head → Class head
  a_member : Class h.MemberExpr
  a_call : Class h.CallExpr
  a_meta : Class (h.MetaPropExpr p.ImportMeta)
  a_shorthand : Class h.AssignPatProp
  declares : (kind : VarDeclKind) (notes : ExportMetadata) → Class (h.VarDecl kind notes)
  plain : {head : Head} → Plain head → Class head

class_of : (head : Head) → Class head
class_of h.ObjectLit = object
class_of h.ImportNamedSpecifier = specifies (record { kind_is = refl; stays_is = λ w inside. refl; none_is = refl; one_is = λ x. refl; more_is = λ x y rest. refl; noted_is = λ notes. refl })
class_of h.ExportNamedSpecifier = specifies (record { kind_is = refl; stays_is = λ w inside. refl; none_is = refl; one_is = λ x. refl; more_is = λ x y rest. refl; noted_is = λ notes. refl })
class_of (h.AssignExpr op) = assigns (record { kind_is = refl; stays_is = λ w inside. refl; around_is = λ inside. refl; noted_is = λ notes. refl; keeps_is = λ field. refl })
class_of (h.OptChainExpr optional) = assigns (record { kind_is = refl; stays_is = λ w inside. refl; around_is = λ inside. refl; noted_is = λ notes. refl; keeps_is = λ field. refl })
class_of h.MemberExpr = a_member
class_of h.CallExpr = a_call
class_of (h.MetaPropExpr p.ImportMeta) = a_meta
class_of h.AssignPatProp = a_shorthand
class_of (h.VarDecl kind notes) = declares kind notes
class_of _ = plain (record { kind_is = refl; stays_is = λ w inside. refl; around_is = λ inside. refl; noted_is = λ notes. refl })

noted_same : {head : Head} → ((notes : ExportMetadata) → noted (Some notes) head ≡ head) → (n : Option ExportMetadata) → noted n head ≡ head
noted_same is None = refl
noted_same is (Some notes) = is notes

noted_as : (clears : Bool) (kind : VarDeclKind) (notes : ExportMetadata) → noted (new_notes clears) (h.VarDecl kind notes) ≡ h.VarDecl kind (kept_notes clears notes)
noted_as true kind notes = refl
noted_as false kind notes = refl

-- The state in which a node is walked.

plain_one : {around : Around} {w : Work} {n : Option ExportMetadata} {e : Enclosing} {o : List Enclosing} {m inside tail : List Item} {head : Head} (field : ℕ) → Plain head → Goes (around_in head inside) inside → Live around e → n ≡ new_notes w.clears_notes → Walks around w n e o m (node field head inside) tail
plain_one {around} {w} {n} {e} {o} {m} {inside} {tail} {head} field it goes live notes =
    let inner : Walks (around_in head inside) w n s.Plain (e ∷ o) (m ++ h.Open field head ∷ []) inside (h.Close ∷ tail) =
    goes w n s.Plain (e ∷ o) (m ++ h.Open field head ∷ []) (subst (λ a. Live a s.Plain) (sym (it.around_is inside)) in_plain) notes (h.Close ∷ tail) in
    node_kept (opening w n e o m live field head (inside ++ h.Close ∷ tail) ∙ (ap (λ kind. begun kind (on w n e o m) field head (inside ++ h.Close ∷ tail)) it.kind_is ∙ keeping_as w n e o m live field head head s.Plain (noted_same it.noted_is n))) refl inner
    (b.Inside field head (it.stays_is w inside) inner.by)

declares_one : {around : Around} {w : Work} {n : Option ExportMetadata} {e : Enclosing} {o : List Enclosing} {m inside tail : List Item} (field : ℕ) (kind : VarDeclKind) (own : ExportMetadata) → Goes Anywhere inside → Live around e → n ≡ new_notes w.clears_notes → Walks around w n e o m (node field (h.VarDecl kind own) inside) tail
declares_one {around} {w} {n} {e} {o} {m} {inside} {tail} field kind own goes live notes =
    let head' : Head = h.VarDecl kind (kept_notes w.clears_notes own) in
    let inner : Walks Anywhere w n s.Plain (e ∷ o) (m ++ h.Open field head' ∷ []) inside (h.Close ∷ tail) =
    goes w n s.Plain (e ∷ o) (m ++ h.Open field head' ∷ []) in_plain notes (h.Close ∷ tail) in
    node_kept (opening w n e o m live field (h.VarDecl kind own) (inside ++ h.Close ∷ tail) ∙ keeping_as w n e o m live field (h.VarDecl kind own) head' s.Plain (ap (λ it. noted it (h.VarDecl kind own)) notes ∙ noted_as w.clears_notes kind own)) refl inner
    (b.Declaration field kind own inner.by)

object_one : {around : Around} {w : Work} {n : Option ExportMetadata} {e : Enclosing} {o : List Enclosing} {m inside tail : List Item} (field : ℕ) → Goes InObject inside → Live around e → n ≡ new_notes w.clears_notes → Walks around w n e o m (node field h.ObjectLit inside) tail
object_one {around} {w} {n} {e} {o} {m} {inside} {tail} field goes live notes =
    let inner : Walks InObject w n s.Object (e ∷ o) (m ++ h.Open field h.ObjectLit ∷ []) inside (h.Close ∷ tail) =
    goes w n s.Object (e ∷ o) (m ++ h.Open field h.ObjectLit ∷ []) in_object notes (h.Close ∷ tail) in
    node_kept (opening w n e o m live field h.ObjectLit (inside ++ h.Close ∷ tail) ∙ keeping_as w n e o m live field h.ObjectLit h.ObjectLit s.Object (noted_same {head = h.ObjectLit} (λ it. refl) n)) refl inner
    (b.Inside field h.ObjectLit refl inner.by)

-- Names in the place of nodes.

-- what is in a node for which something else stands gives nothing
abbrev pub Passes : List Item → Type 0
Passes items = (w : Work) (n : Option ExportMetadata) (o : List Enclosing) (m rest : List Item) → walked (on w n s.Gone o m) (items ++ rest) ≡ walked (on w n s.Gone o m) rest

passes_node : (inside behind : List Item) (field : ℕ) (head : Head) → Passes inside → Passes behind → Passes (h.Open field head ∷ (inside ++ h.Close ∷ behind))
passes_node inside behind field head inner more w n o m rest =
    ap (λ l. walked (on w n s.Gone (s.Gone ∷ o) m) l) (append_assoc inside (h.Close ∷ behind) rest)
    ∙ (inner w n (s.Gone ∷ o) m (h.Close ∷ (behind ++ rest))
    ∙ (ap (λ l. walked (on w n s.Gone o l) (behind ++ rest)) (append-nil m) ∙ more w n o m rest))

passes : {around : Around} {items : List Item} → Fits around items → Passes items
passes f.Nothing w n o m rest = refl
passes (f.Hole field more) w n o m rest = passes more w n o m rest
passes (f.Name field x ctxt role more) w n o m rest = passes more w n o m rest
passes (f.Node {inside = inside} {rest = behind} field head fit inner more) w n o m rest = passes_node inside behind field head (passes inner) (passes more) w n o m rest
passes (f.Shorthand {default = default} {rest = behind} field x ctxt role occurs inner more) w n o m rest =
    passes_node (binding None 0 x ctxt role ++ default) behind field h.AssignPatProp (passes_node (h.Ident 0 x ctxt role ∷ []) default 0 h.BindingIdent (λ w n o m rest. refl) (passes inner)) (passes more) w n o m rest

-- a name stands for a node
gone : (w w' : Work) (n : Option ExportMetadata) (e : Enclosing) (o : List Enclosing) (m inside tail put : List Item) (field : ℕ) (head : Head) → turned (on w n e o m) (h.Open field head) (inside ++ h.Close ∷ tail) ≡ on w' n s.Gone (e ∷ o) (m ++ put) → Passes inside → walked (on w n e o m) (node field head inside ++ tail) ≡ walked (on w' n e o (m ++ put)) tail
gone w w' n e o m inside tail put field head turn inner =
    ap (λ l. walked (on w n e o m) (h.Open field head ∷ l)) (append_assoc inside (h.Close ∷ []) tail)
    ∙ (ap (λ it. walked it (inside ++ h.Close ∷ tail)) turn
    ∙ (inner w' n (e ∷ o) (m ++ put) (h.Close ∷ tail)
    ∙ ap (λ l. walked (on w' n e o l) tail) (append-nil (m ++ put))))

-- member expressions
anywhere : (around : Around) → is_anywhere around ≡ true → Anywhere ≡ around
anywhere Anywhere e = refl
anywhere InObject e = absurd (false≢true e)
anywhere InSpecifier e = absurd (false≢true e)

member_turned : {around beside : Around} (w : Work) (n : Option ExportMetadata) (e : Enclosing) (o : List Enclosing) (m inside tail : List Item) (field : ℕ) → Live around e → Fits beside inside → turned (on w n e o m) (h.Open field h.MemberExpr) (inside ++ h.Close ∷ tail) ≡ member (on w n e o m) field (name_for_member (upcoming w) inside)
member_turned w n _ o m inside tail field in_plain them = ap (member (on w n s.Plain o m) field) (member_so them (upcoming w) tail)
member_turned w n _ o m inside tail field in_default them = ap (member (on w n s.Default o m) field) (member_so them (upcoming w) tail)
member_turned w n _ o m inside tail field in_object them = ap (member (on w n s.Object o m) field) (member_so them (upcoming w) tail)
member_turned w n _ o m inside tail field in_specifier them = ap (member (on w n s.Specifier o m) field) (member_so them (upcoming w) tail)

member_chosen : {around : Around} {w : Work} {n : Option ExportMetadata} {e : Enclosing} {o : List Enclosing} {m inside tail : List Item} (field : ℕ) (choice : Option Ident) → name_for_member (upcoming w) inside ≡ choice → is_anywhere around ≡ true → Fits Anywhere inside → Goes Anywhere inside → Live around e → n ≡ new_notes w.clears_notes → Walks around w n e o m (node field h.MemberExpr inside) tail
member_chosen {around} {w} {n} {e} {o} {m} {inside} {tail} field None is fit them goes live notes =
    let inner : Walks Anywhere w n s.Plain (e ∷ o) (m ++ h.Open field h.MemberExpr ∷ []) inside (h.Close ∷ tail) =
    goes w n s.Plain (e ∷ o) (m ++ h.Open field h.MemberExpr ∷ []) in_plain notes (h.Close ∷ tail) in
    node_kept (member_turned w n e o m inside tail field live them ∙ (ap (member (on w n e o m) field) is ∙ keeping_as w n e o m live field h.MemberExpr h.MemberExpr s.Plain (noted_same {head = h.MemberExpr} (λ it. refl) n))) refl inner
    (b.Inside field h.MemberExpr (ap is_none is) inner.by)
member_chosen {around} {w} {n} {e} {o} {m} {inside} {tail} field (Some name) is fit them goes live notes = record {
  left = after w;
  made = reference field name;
  goes = gone w (after w) n e o m inside tail (reference field name) field h.MemberExpr (member_turned w n e o m inside tail field live them ∙ (ap (member (on w n e o m) field) is ∙ ap (λ it. on (after w) n s.Gone (it ∷ o) (m ++ reference field name)) (lasting live))) (passes them);
  by = subst (λ a. Becomes a w (node field h.MemberExpr inside) (reference field name) (after w)) (anywhere around fit) (b.OfReads field name inside is);
  same = refl;
  full = refl;
}

-- calls
call_chosen : {around : Around} {w : Work} {n : Option ExportMetadata} {e : Enclosing} {o : List Enclosing} {m inside tail : List Item} (field : ℕ) (choice : Option Ident) → name_for_call (upcoming w) inside ≡ choice → Fits Anywhere inside → Goes Anywhere inside → Live around e → n ≡ new_notes w.clears_notes → Walks around w n e o m (node field h.CallExpr inside) tail
call_chosen {around} {w} {n} {e} {o} {m} {inside} {tail} field None is them goes live notes =
    let inner : Walks Anywhere w n s.Plain (e ∷ o) (m ++ h.Open field h.CallExpr ∷ []) inside (h.Close ∷ tail) =
    goes w n s.Plain (e ∷ o) (m ++ h.Open field h.CallExpr ∷ []) in_plain notes (h.Close ∷ tail) in
    node_kept (opening w n e o m live field h.CallExpr (inside ++ h.Close ∷ tail) ∙ (ap (call (on w n e o m) field) (call_so them (upcoming w) tail ∙ is) ∙ keeping_as w n e o m live field h.CallExpr h.CallExpr s.Plain (noted_same {head = h.CallExpr} (λ it. refl) n))) refl inner
    (b.Inside field h.CallExpr (ap is_none is) inner.by)
call_chosen {around} {w} {n} {e} {o} {m} {inside} {tail} field (Some name) is them goes live notes =
    let put : List Item = node field h.CallExpr (reference 0 name) in
    record {
      left = after w;
      made = put;
      goes = gone w (after w) n e o m inside tail put field h.CallExpr (opening w n e o m live field h.CallExpr (inside ++ h.Close ∷ tail) ∙ (ap (call (on w n e o m) field) (call_so them (upcoming w) tail ∙ is) ∙ ap (λ it. on (after w) n s.Gone (it ∷ o) (m ++ put)) (lasting live))) (passes them);
      by = b.OfCall field name inside is;
      same = refl;
      full = refl;
    }

-- `import.meta`
meta_chosen : {around : Around} {w : Work} {n : Option ExportMetadata} {e : Enclosing} {o : List Enclosing} {m tail : List Item} (field : ℕ) (choice : Option Ident) → w.meta ≡ choice → is_anywhere around ≡ true → Live around e → n ≡ new_notes w.clears_notes → Walks around w n e o m (node field (h.MetaPropExpr p.ImportMeta) []) tail
meta_chosen {around} {w} {n} {e} {o} {m} {tail} field None is fit live notes =
    let head : Head = h.MetaPropExpr p.ImportMeta in
    let inner : Walks Anywhere w n s.Plain (e ∷ o) (m ++ h.Open field head ∷ []) [] (h.Close ∷ tail) =
    nothing w n s.Plain (e ∷ o) (m ++ h.Open field head ∷ []) in_plain notes (h.Close ∷ tail) in
    node_kept (opening w n e o m live field head (h.Close ∷ tail) ∙ (ap (meta (on w n e o m) field) is ∙ keeping_as w n e o m live field head head s.Plain (noted_same {head = head} (λ it. refl) n))) refl inner
    (b.Inside field head (ap is_none is) inner.by)
meta_chosen {around} {w} {n} {e} {o} {m} {tail} field (Some name) is fit live notes = record {
  left = w;
  made = reference field name;
  goes = gone w w n e o m [] tail (reference field name) field (h.MetaPropExpr p.ImportMeta) (opening w n e o m live field (h.MetaPropExpr p.ImportMeta) (h.Close ∷ tail) ∙ (ap (meta (on w n e o m) field) is ∙ ap (λ it. on w n s.Gone (it ∷ o) (m ++ reference field name)) (lasting live))) (λ w n o m rest. refl);
  by = subst (λ a. Becomes a w (node field (h.MetaPropExpr p.ImportMeta) []) (reference field name) w) (anywhere around fit) (b.OfMeta field p.ImportMeta name is);
  same = refl;
  full = refl;
}

left_true : (a b : Bool) → a && b ≡ true → a ≡ true
left_true true b e = refl
left_true false b e = absurd (false≢true e)

right_true : (a b : Bool) → a && b ≡ true → b ≡ true
right_true true b e = e
right_true false b e = absurd (false≢true e)

meta_one : {around : Around} {w : Work} {n : Option ExportMetadata} {e : Enclosing} {o : List Enclosing} {m tail : List Item} (inside : List Item) (field : ℕ) → is_anywhere around && is_empty inside ≡ true → Live around e → n ≡ new_notes w.clears_notes → Walks around w n e o m (node field (h.MetaPropExpr p.ImportMeta) inside) tail
meta_one {around} {w} [] field fit live notes = meta_chosen field w.meta refl (left_true (is_anywhere around) true fit) live notes
meta_one {around} (x ∷ inside) field fit live notes = absurd (false≢true (right_true (is_anywhere around) false fit))

-- Specifiers.

-- what is around the names of a specifier, and in which enclosing they are walked
record Specified (head : Head) (inside tail : List Item) : Type 0 where
  enclosing : Enclosing
  chosen : (if is_alone (inside ++ h.Close ∷ tail) then s.Specifier else s.Plain) ≡ enclosing
  live : Live (around_in head inside) enclosing
  end : end_of enclosing ≡ h.Close ∷ []

in_anywhere : {head : Head} {inside tail : List Item} → is_alone (inside ++ h.Close ∷ tail) ≡ false → around_in head inside ≡ Anywhere → Specified head inside tail
in_anywhere alone around = record {
  enclosing = s.Plain;
  chosen = ap (λ so. if so then s.Specifier else s.Plain) alone;
  live = subst (λ a. Live a s.Plain) (sym around) in_plain;
  end = refl;
}

-- two elements at least
two_more : {head : Head} (it : Specifies head) (x : Item) (inside rest : List Item) → around_in head (x ∷ (inside ++ h.Close ∷ rest)) ≡ Anywhere
two_more it x [] rest = it.more_is x h.Close rest
two_more it x (y ∷ inside) rest = it.more_is x y (inside ++ h.Close ∷ rest)

specified : {around : Around} {head : Head} {inside : List Item} → Specifies head → Fits around inside → begins_with_hole inside ≡ false → (tail : List Item) → Specified head inside tail
specified it f.Nothing e tail = in_anywhere refl it.none_is
specified it (f.Hole field more) e tail = absurd (false≢true (sym e))
specified it (f.Name field x ctxt role f.Nothing) e tail = record {
  enclosing = s.Specifier;
  chosen = refl;
  live = subst (λ a. Live a s.Specifier) (sym (it.one_is (h.Ident field x ctxt role))) in_specifier;
  end = refl;
}
specified it (f.Name field x ctxt role (f.Hole at more)) e tail = in_anywhere refl (it.more_is _ _ _)
specified it (f.Name field x ctxt role (f.Name at y other of more)) e tail = in_anywhere refl (it.more_is _ _ _)
specified it (f.Name field x ctxt role (f.Node at head fit inner more)) e tail = in_anywhere refl (it.more_is _ _ _)
specified it (f.Name field x ctxt role (f.Shorthand at y other of occurs inner more)) e tail = in_anywhere refl (it.more_is _ _ _)
specified it (f.Node {inside = inside} {rest = behind} field head fit inner more) e tail = in_anywhere refl (two_more it (h.Open field head) inside behind)
specified it (f.Shorthand field x ctxt role occurs inner more) e tail = in_anywhere refl (it.more_is _ _ _)

negated_true : (a : Bool) → negated a ≡ true → a ≡ false
negated_true true e = absurd (false≢true e)
negated_true false e = refl

specifier_one : {around : Around} {w : Work} {n : Option ExportMetadata} {e : Enclosing} {o : List Enclosing} {m inside tail : List Item} {head : Head} (field : ℕ) → Specifies head → is_second_plain inside && negated (begins_with_hole inside) ≡ true → Fits (around_in head inside) inside → Goes (around_in head inside) inside → Live around e → n ≡ new_notes w.clears_notes → Walks around w n e o m (node field head inside) tail
specifier_one {around} {w} {n} {e} {o} {m} {inside} {tail} {head} field it fit them goes live notes =
    let ahead : List Item = inside ++ h.Close ∷ tail in
    let so : Specified head inside tail = specified it them (negated_true (begins_with_hole inside) (right_true (is_second_plain inside) (negated (begins_with_hole inside)) fit)) tail in
    let inner : Walks (around_in head inside) w n so.enclosing (e ∷ o) (m ++ h.Open field head ∷ []) inside (h.Close ∷ tail) =
    goes w n so.enclosing (e ∷ o) (m ++ h.Open field head ∷ []) so.live notes (h.Close ∷ tail) in
    node_kept (opening w n e o m live field head ahead
    ∙ (ap (λ kind. begun kind (on w n e o m) field head ahead) it.kind_is
    ∙ (ap (kept (on w n e o m) field head) so.chosen
    ∙ keeping_as w n e o m live field head head so.enclosing (noted_same it.noted_is n)))) so.end inner
    (b.Inside field head (it.stays_is w inside ∙ left_true (is_second_plain inside) (negated (begins_with_hole inside)) fit) inner.by)

-- Assignments and optional chains.

-- whether a member expression stands first, and how the walk goes from there
pub data First : Around → List Item → Type 0 where
  a_first : {around : Around} (field : ℕ) (inside others : List Item) → Goes Anywhere inside → Goes around others → First around (h.Open field h.MemberExpr ∷ (inside ++ h.Close ∷ others))
  no_first : {around : Around} {items : List Item} → ((rest : List Item) → begins_with_member (items ++ h.Close ∷ rest) ≡ false) → begins_with_member items ≡ false → First around items

data BeginsView : Head → Type 0 where
  begins : BeginsView h.MemberExpr
  begins_not : {head : Head} → ((field : ℕ) (rest : List Item) → begins_with_member (h.Open field head ∷ rest) ≡ false) → BeginsView head

begins_view : (head : Head) → BeginsView head
begins_view h.MemberExpr = begins
begins_view _ = begins_not (λ field rest. refl)

first_node : {around : Around} {head : Head} (field : ℕ) (inside others : List Item) → BeginsView head → Goes (around_in head inside) inside → Goes around others → First around (h.Open field head ∷ (inside ++ h.Close ∷ others))
first_node field inside others begins inner more = a_first field inside others inner more
first_node field inside others (begins_not not) inner more = no_first (λ rest. not field ((inside ++ h.Close ∷ others) ++ h.Close ∷ rest)) (not field (inside ++ h.Close ∷ others))

shape_first : (m : List Item) (x : Item) (first others : List Item) → (((m ++ x ∷ []) ++ first) ++ others) ++ h.Close ∷ [] ≡ m ++ (x ∷ ((first ++ others) ++ h.Close ∷ []))
shape_first m x first others =
    append_assoc ((m ++ x ∷ []) ++ first) others (h.Close ∷ [])
    ∙ (append_assoc (m ++ x ∷ []) first (others ++ h.Close ∷ [])
    ∙ (append_assoc m (x ∷ []) (first ++ (others ++ h.Close ∷ []))
    ∙ ap (λ l. m ++ x ∷ l) (sym (append_assoc first others (h.Close ∷ [])))))

target_turned : (w : Work) (n : Option ExportMetadata) (o : List Enclosing) (m ahead : List Item) (field : ℕ) → turned (on w n s.Target o m) (h.Open field h.MemberExpr) ahead ≡ on w n s.Plain (s.Plain ∷ o) (m ++ h.Open field h.MemberExpr ∷ [])
target_turned w n o m ahead field = ap (λ it. on w n s.Plain (s.Plain ∷ o) (m ++ h.Open field it ∷ [])) (noted_same {head = h.MemberExpr} (λ it. refl) n)

first_kept : {around : Around} {w : Work} {n : Option ExportMetadata} {e : Enclosing} {o : List Enclosing} {m tail : List Item} {head : Head} (field : ℕ) → Assigns head → (at : ℕ) (inside others : List Item) → (at == 1) ≡ true → Goes Anywhere inside → Goes Anywhere others → Live around e → n ≡ new_notes w.clears_notes → Walks around w n e o m (node field head (node at h.MemberExpr inside ++ others)) tail
first_kept {around} {w} {n} {e} {o} {m} {tail} {head} field it at inside others first inner more live notes =
    let all : List Item = node at h.MemberExpr inside ++ others in
    let m' : List Item = m ++ h.Open field head ∷ [] in
    let behind_it : List Item = others ++ h.Close ∷ tail in
    let one : Walks Anywhere w n s.Plain (s.Plain ∷ e ∷ o) (m' ++ h.Open at h.MemberExpr ∷ []) inside (h.Close ∷ behind_it) =
    inner w n s.Plain (s.Plain ∷ e ∷ o) (m' ++ h.Open at h.MemberExpr ∷ []) in_plain notes (h.Close ∷ behind_it) in
    let put : List Item = node at h.MemberExpr one.made in
    let two : Walks Anywhere one.left n s.Plain (e ∷ o) (m' ++ put) others (h.Close ∷ tail) =
    more one.left n s.Plain (e ∷ o) (m' ++ put) in_plain (notes ∙ ap new_notes (sym one.same)) (h.Close ∷ tail) in
    record {
      left = two.left;
      made = node field head (put ++ two.made);
      goes =
          ap (λ l. walked (on w n e o m) (h.Open field head ∷ l)) (append_assoc all (h.Close ∷ []) tail)
          ∙ (ap (λ it. walked it (all ++ h.Close ∷ tail))
          (opening w n e o m live field head (all ++ h.Close ∷ tail)
          ∙ (ap (λ kind. begun kind (on w n e o m) field head (all ++ h.Close ∷ tail)) it.kind_is
          ∙ keeping_as w n e o m live field head head s.Target (noted_same it.noted_is n)))
          ∙ (ap (walked (on w n s.Target (e ∷ o) m')) (append_assoc (node at h.MemberExpr inside) others (h.Close ∷ tail))
          ∙ (node_goes w n s.Target s.Plain s.Plain (e ∷ o) m' inside behind_it at h.MemberExpr h.MemberExpr (target_turned w n (e ∷ o) m' (inside ++ h.Close ∷ behind_it) at) refl one
          ∙ (two.goes
          ∙ ap (λ l. walked (on two.left n e o l) tail) (shape_first m (h.Open field head) put two.made)))));
      by = b.Kept field head at (it.keeps_is at ∙ first) one.by two.by;
      same = two.same ∙ one.same;
      full = refl;
    }

assign_one : {around : Around} {w : Work} {n : Option ExportMetadata} {e : Enclosing} {o : List Enclosing} {m inside tail : List Item} {head : Head} (field : ℕ) → Assigns head → has_member_in_1 inside ≡ true → First Anywhere inside → Goes Anywhere inside → Live around e → n ≡ new_notes w.clears_notes → Walks around w n e o m (node field head inside) tail
assign_one {around} {w} {n} {e} {o} {m} {inside} {tail} {head} field it fit (a_first at first others inner more) goes live notes =
    subst (λ l. Walks around w n e o m (node field head (h.Open at h.MemberExpr ∷ l)) tail) (append_assoc first (h.Close ∷ []) others)
    (first_kept field it at first others fit inner more live notes)
assign_one {around} {w} {n} {e} {o} {m} {inside} {tail} {head} field it fit (no_first not none) goes live notes =
    let ahead : List Item = inside ++ h.Close ∷ tail in
    let inner : Walks Anywhere w n s.Plain (e ∷ o) (m ++ h.Open field head ∷ []) inside (h.Close ∷ tail) =
    goes w n s.Plain (e ∷ o) (m ++ h.Open field head ∷ []) in_plain notes (h.Close ∷ tail) in
    node_kept (opening w n e o m live field head ahead
    ∙ (ap (λ kind. begun kind (on w n e o m) field head ahead) it.kind_is
    ∙ (ap (λ so. kept (on w n e o m) field head (if so then s.Target else s.Plain)) (not tail)
    ∙ keeping_as w n e o m live field head head s.Plain (noted_same it.noted_is n)))) refl inner
    (b.Inside field head (it.stays_is w inside ∙ ap negated none) (subst (λ a. Becomes a w inside inner.made inner.left) (sym (it.around_is inside)) inner.by))

-- Shorthand properties of patterns.

-- where the name of a property stands, and in which field it is put
data Placed : Enclosing → ℕ → Type 0 where
  by_itself : Placed s.Plain 0
  by_default : Placed s.Default 0
  by_key : Placed s.Value 1

name_begun : {e : Enclosing} {put : ℕ} (w : Work) (n : Option ExportMetadata) (o : List Enclosing) (m ahead : List Item) → Placed e put → turned (on w n e o m) (h.Open 0 h.BindingIdent) ahead ≡ on w n s.Plain (e ∷ o) (m ++ h.Open put (noted n h.BindingIdent) ∷ [])
name_begun w n o m ahead by_itself = refl
name_begun w n o m ahead by_default = refl
name_begun w n o m ahead by_key = refl

name_ended : (w : Work) (n : Option ExportMetadata) (e : Enclosing) (o : List Enclosing) (m : List Item) (x : Text) (ctxt : ℕ) (role : Role) → is_occurrence role ≡ true → (rest : List Item) → walked (on w n s.Plain (e ∷ o) m) (h.Ident 0 x ctxt role ∷ h.Close ∷ rest) ≡ walked (on (after w) n e o ((m ++ renamed (next w x) 0 x ctxt role ∷ []) ++ h.Close ∷ [])) rest
name_ended w n e o m x ctxt r.Binding occurs rest = refl
name_ended w n e o m x ctxt r.Reference occurs rest = refl
name_ended w n e o m x ctxt r.Word occurs rest = absurd (false≢true occurs)

bound : {e : Enclosing} {put : ℕ} (w : Work) (n : Option ExportMetadata) (o : List Enclosing) (m : List Item) (x : Text) (ctxt : ℕ) (role : Role) → is_occurrence role ≡ true → Placed e put → (rest : List Item) → walked (on w n e o m) (binding None 0 x ctxt role ++ rest) ≡ walked (on (after w) n e o (m ++ binding (next w x) put x ctxt role)) rest
bound {e} {put} w n o m x ctxt role occurs placed rest =
    ap (λ it. walked it (h.Ident 0 x ctxt role ∷ h.Close ∷ rest)) (name_begun w n o m (h.Ident 0 x ctxt role ∷ h.Close ∷ rest) placed ∙ ap (λ it. on w n s.Plain (e ∷ o) (m ++ h.Open put it ∷ [])) (noted_same {head = h.BindingIdent} (λ it. refl) n))
    ∙ (name_ended w n e o (m ++ h.Open put h.BindingIdent ∷ []) x ctxt role occurs rest
    ∙ ap (λ l. walked (on (after w) n e o l) rest) (shape m (h.Open put h.BindingIdent) (renamed (next w x) 0 x ctxt role ∷ [])))

-- whether there is a default value
data DefaultView : List Item → Type 0 where
  no_default : DefaultView []
  a_default : {items : List Item} → is_empty items ≡ false → ((rest : List Item) → has_default_ahead (h.Close ∷ h.Close ∷ h.Close ∷ (items ++ h.Close ∷ rest)) ≡ true) → DefaultView items

default_view : {around : Around} {items : List Item} → Fits around items → DefaultView items
default_view f.Nothing = no_default
default_view (f.Hole field more) = a_default refl (λ rest. refl)
default_view (f.Name field x ctxt role more) = a_default refl (λ rest. refl)
default_view (f.Node field head fit inner more) = a_default refl (λ rest. refl)
default_view (f.Shorthand field x ctxt role occurs inner more) = a_default refl (λ rest. refl)

pattern_more : (change : Option Change) (x : Text) (ctxt : ℕ) (role : Role) (made : List Item) → is_empty made ≡ false → pattern_in_its_place change x ctxt role made ≡ node 1 h.AssignPat (binding change 0 x ctxt role ++ made)
pattern_more change x ctxt role [] e = absurd (false≢true (sym e))
pattern_more change x ctxt role (y ∷ made) e = refl

-- a shorthand begins, whose name may be spelled out
shorthand_turned : {around : Around} (w : Work) (n : Option ExportMetadata) (e : Enclosing) (o : List Enclosing) (m : List Item) → Live around e → (field : ℕ) (x : Text) (ctxt : ℕ) (role : Role) (so : Bool) → spells_out (next w x) ≡ so → (rest : List Item) → turned (on w n e o m) (h.Open field h.AssignPatProp) (binding None 0 x ctxt role ++ rest) ≡ (if so then pair (on w n e o m) field x (has_default_ahead (h.Close ∷ h.Close ∷ h.Close ∷ rest)) else kept (on w n e o m) field h.AssignPatProp s.Plain)
shorthand_turned w n e o m live field x ctxt role so is rest =
    opening w n e o m live field h.AssignPatProp (binding None 0 x ctxt role ++ rest)
    ∙ ap (λ it. if it then pair (on w n e o m) field x (has_default_ahead (h.Close ∷ h.Close ∷ h.Close ∷ rest)) else kept (on w n e o m) field h.AssignPatProp s.Plain) is

-- what is in a shorthand begins where it does
shorthand_goes : (w : Work) (n : Option ExportMetadata) (e : Enclosing) (o : List Enclosing) (m default tail : List Item) (field : ℕ) (x : Text) (ctxt : ℕ) (role : Role) (it : Walking) → turned (on w n e o m) (h.Open field h.AssignPatProp) (binding None 0 x ctxt role ++ (default ++ h.Close ∷ tail)) ≡ it → walked (on w n e o m) (node field h.AssignPatProp (binding None 0 x ctxt role ++ default) ++ tail) ≡ walked it (binding None 0 x ctxt role ++ (default ++ h.Close ∷ tail))
shorthand_goes w n e o m default tail field x ctxt role it turn =
    ap (λ l. walked (on w n e o m) (h.Open field h.AssignPatProp ∷ l)) (append_assoc (binding None 0 x ctxt role ++ default) (h.Close ∷ []) tail)
    ∙ ap (λ state. walked state (binding None 0 x ctxt role ++ (default ++ h.Close ∷ tail))) turn

-- it stays
shorthand_kept : {around : Around} {w : Work} {n : Option ExportMetadata} {e : Enclosing} {o : List Enclosing} {m default tail : List Item} (field : ℕ) (x : Text) (ctxt : ℕ) (role : Role) → is_occurrence role ≡ true → spells_out (next w x) ≡ false → Goes Anywhere default → Live around e → n ≡ new_notes w.clears_notes → Walks around w n e o m (node field h.AssignPatProp (binding None 0 x ctxt role ++ default)) tail
shorthand_kept {around} {w} {n} {e} {o} {m} {default} {tail} field x ctxt role occurs stays_so goes live notes =
    let m' : List Item = m ++ h.Open field h.AssignPatProp ∷ [] in
    let name : List Item = binding (next w x) 0 x ctxt role in
    let inner : Walks Anywhere (after w) n s.Plain (e ∷ o) (m' ++ name) default (h.Close ∷ tail) = goes (after w) n s.Plain (e ∷ o) (m' ++ name) in_plain notes (h.Close ∷ tail) in
    record {
      left = inner.left;
      made = node field h.AssignPatProp (name ++ inner.made);
      goes =
          shorthand_goes w n e o m default tail field x ctxt role (on w n s.Plain (e ∷ o) m')
          (shorthand_turned w n e o m live field x ctxt role false stays_so (default ++ h.Close ∷ tail) ∙ keeping_as w n e o m live field h.AssignPatProp h.AssignPatProp s.Plain (noted_same {head = h.AssignPatProp} (λ it. refl) n))
          ∙ (bound w n (e ∷ o) m' x ctxt role occurs by_itself (default ++ h.Close ∷ tail)
          ∙ (inner.goes
          ∙ ap (λ l. walked (on inner.left n e o l) tail) (shape_first m (h.Open field h.AssignPatProp) name inner.made)));
      by = subst (λ l. Becomes around w (node field h.AssignPatProp (binding None 0 x ctxt role ++ default)) l inner.left)
          (ap (λ so. if so then node field h.KeyValuePatProp (plain_key x ++ pattern_in_its_place (next w x) x ctxt role inner.made) else node field h.AssignPatProp (name ++ inner.made)) stays_so)
          (b.Shorthand field x ctxt role occurs inner.by);
      same = inner.same;
      full = refl;
    }

-- it is spelled out, without a default value
shorthand_alone : {around : Around} {w : Work} {n : Option ExportMetadata} {e : Enclosing} {o : List Enclosing} {m tail : List Item} (field : ℕ) (x : Text) (ctxt : ℕ) (role : Role) → is_occurrence role ≡ true → spells_out (next w x) ≡ true → Live around e → Walks around w n e o m (node field h.AssignPatProp (binding None 0 x ctxt role)) tail
shorthand_alone {around} {w} {n} {e} {o} {m} {tail} field x ctxt role occurs spelled live =
    let key : List Item = h.Open field h.KeyValuePatProp ∷ plain_key x in
    let name : List Item = binding (next w x) 1 x ctxt role in
    record {
      left = after w;
      made = node field h.KeyValuePatProp (plain_key x ++ name);
      goes =
          shorthand_goes w n e o m [] tail field x ctxt role (on w n s.Value (e ∷ o) (m ++ key))
          (shorthand_turned w n e o m live field x ctxt role true spelled (h.Close ∷ tail) ∙ ap (λ it. on w n s.Value (it ∷ o) (m ++ key)) (lasting live))
          ∙ (bound w n (e ∷ o) (m ++ key) x ctxt role occurs by_key (h.Close ∷ tail)
          ∙ ap (λ l. walked (on (after w) n e o l) tail) (append_assoc (m ++ key) name (h.Close ∷ []) ∙ append_assoc m key (name ++ h.Close ∷ [])));
      by = subst (λ l. Becomes around w (node field h.AssignPatProp (binding None 0 x ctxt role)) l (after w))
          (ap (λ so. if so then node field h.KeyValuePatProp (plain_key x ++ name) else node field h.AssignPatProp (binding (next w x) 0 x ctxt role)) spelled)
          (b.Shorthand field x ctxt role occurs b.Nothing);
      same = refl;
      full = refl;
    }

shape_pair : (m key a made : List Item) → (((m ++ key) ++ a) ++ made) ++ h.Close ∷ h.Close ∷ [] ≡ m ++ (key ++ (a ++ ((made ++ h.Close ∷ []) ++ h.Close ∷ [])))
shape_pair m key a made =
    append_assoc ((m ++ key) ++ a) made (h.Close ∷ h.Close ∷ [])
    ∙ (append_assoc (m ++ key) a (made ++ h.Close ∷ h.Close ∷ [])
    ∙ (append_assoc m key (a ++ (made ++ h.Close ∷ h.Close ∷ []))
    ∙ ap (λ l. m ++ (key ++ (a ++ l))) (sym (append_assoc made (h.Close ∷ []) (h.Close ∷ [])))))

-- it is spelled out with its default value
shorthand_pair : {around : Around} {w : Work} {n : Option ExportMetadata} {e : Enclosing} {o : List Enclosing} {m default tail : List Item} (field : ℕ) (x : Text) (ctxt : ℕ) (role : Role) → is_occurrence role ≡ true → spells_out (next w x) ≡ true → is_empty default ≡ false → ((rest : List Item) → has_default_ahead (h.Close ∷ h.Close ∷ h.Close ∷ (default ++ h.Close ∷ rest)) ≡ true) → Goes Anywhere default → Live around e → n ≡ new_notes w.clears_notes → Walks around w n e o m (node field h.AssignPatProp (binding None 0 x ctxt role ++ default)) tail
shorthand_pair {around} {w} {n} {e} {o} {m} {default} {tail} field x ctxt role occurs spelled some has goes live notes =
    let key : List Item = h.Open field h.KeyValuePatProp ∷ (plain_key x ++ h.Open 1 h.AssignPat ∷ []) in
    let name : List Item = binding (next w x) 0 x ctxt role in
    let inner : Walks Anywhere (after w) n s.Default (e ∷ o) ((m ++ key) ++ name) default (h.Close ∷ tail) = goes (after w) n s.Default (e ∷ o) ((m ++ key) ++ name) in_default notes (h.Close ∷ tail) in
    record {
      left = inner.left;
      made = node field h.KeyValuePatProp (plain_key x ++ node 1 h.AssignPat (name ++ inner.made));
      goes =
          shorthand_goes w n e o m default tail field x ctxt role (on w n s.Default (e ∷ o) (m ++ key))
          (shorthand_turned w n e o m live field x ctxt role true spelled (default ++ h.Close ∷ tail)
          ∙ (ap (pair (on w n e o m) field x) (has tail) ∙ ap (λ it. on w n s.Default (it ∷ o) (m ++ key)) (lasting live)))
          ∙ (bound w n (e ∷ o) (m ++ key) x ctxt role occurs by_default (default ++ h.Close ∷ tail)
          ∙ (inner.goes
          ∙ ap (λ l. walked (on inner.left n e o l) tail) (shape_pair m key name inner.made)));
      by = subst (λ l. Becomes around w (node field h.AssignPatProp (binding None 0 x ctxt role ++ default)) l inner.left)
          (ap (λ so. if so then node field h.KeyValuePatProp (plain_key x ++ pattern_in_its_place (next w x) x ctxt role inner.made) else node field h.AssignPatProp (name ++ inner.made)) spelled
          ∙ ap (λ l. node field h.KeyValuePatProp (plain_key x ++ l)) (pattern_more (next w x) x ctxt role inner.made (inner.full ∙ some)))
          (b.Shorthand field x ctxt role occurs inner.by);
      same = inner.same;
      full = refl;
    }

shorthand_one : {around : Around} {w : Work} {n : Option ExportMetadata} {e : Enclosing} {o : List Enclosing} {m default tail : List Item} (field : ℕ) (x : Text) (ctxt : ℕ) (role : Role) → is_occurrence role ≡ true → (so : Bool) → spells_out (next w x) ≡ so → DefaultView default → Goes Anywhere default → Live around e → n ≡ new_notes w.clears_notes → Walks around w n e o m (node field h.AssignPatProp (binding None 0 x ctxt role ++ default)) tail
shorthand_one field x ctxt role occurs false is view goes live notes = shorthand_kept field x ctxt role occurs is goes live notes
shorthand_one field x ctxt role occurs true is no_default goes live notes = shorthand_alone field x ctxt role occurs is live
shorthand_one field x ctxt role occurs true is (a_default some has) goes live notes = shorthand_pair field x ctxt role occurs is some has goes live notes

-- All of it.

node_one : {around : Around} {w : Work} {n : Option ExportMetadata} {e : Enclosing} {o : List Enclosing} {m inside tail : List Item} {head : Head} (field : ℕ) → Class head → is_fit (kind_of head) around inside ≡ true → Fits (around_in head inside) inside → Goes (around_in head inside) inside → First (around_in head inside) inside → Live around e → n ≡ new_notes w.clears_notes → Walks around w n e o m (node field head inside) tail
node_one field object fit them goes first live notes = object_one field goes live notes
node_one {around = around} {inside = inside} field (specifies it) fit them goes first live notes =
    specifier_one field it (subst (λ kind. is_fit kind around inside ≡ true) it.kind_is fit) them goes live notes
node_one {around = around} {inside = inside} field (assigns it) fit them goes first live notes =
    assign_one field it (subst (λ kind. is_fit kind around inside ≡ true) it.kind_is fit) (subst (λ a. First a inside) (it.around_is inside) first) (subst (λ a. Goes a inside) (it.around_is inside) goes) live notes
node_one {w = w} {inside = inside} field a_member fit them goes first live notes = member_chosen field (name_for_member (upcoming w) inside) refl fit them goes live notes
node_one {w = w} {inside = inside} field a_call fit them goes first live notes = call_chosen field (name_for_call (upcoming w) inside) refl them goes live notes
node_one {inside = inside} field a_meta fit them goes first live notes = meta_one inside field fit live notes
node_one field a_shorthand fit them goes first live notes = absurd (false≢true fit)
node_one field (declares kind own) fit them goes first live notes = declares_one field kind own goes live notes
node_one field (plain it) fit them goes first live notes = plain_one field it goes live notes

record Walker (around : Around) (items : List Item) : Type 0 where
  goes : Goes around items
  first : First around items

walks : {around : Around} {items : List Item} → Fits around items → Walker around items
walks f.Nothing = record { goes = nothing; first = no_first (λ rest. refl) refl }
walks (f.Hole {rest = others} field more) = record {
  goes = λ w n e o m live notes rest. joined (hole live field (others ++ rest)) (walks more).goes live notes;
  first = no_first (λ rest. refl) refl;
}
walks (f.Name {rest = others} field x ctxt role more) = record {
  goes = λ w n e o m live notes rest. joined (name live field x ctxt role (others ++ rest)) (walks more).goes live notes;
  first = no_first (λ rest. refl) refl;
}
walks (f.Node {around = around} {inside = inside} {rest = others} field head fit inner more) = record {
  goes = λ w n e o m live notes rest.
      subst (λ l. Walks around w n e o m (h.Open field head ∷ l) rest) (append_assoc inside (h.Close ∷ []) others)
      (joined {front = node field head inside} (node_one field (class_of head) fit inner (walks inner).goes (walks inner).first live notes) (walks more).goes live notes);
  first = first_node field inside others (begins_view head) (walks inner).goes (walks more).goes;
}
walks (f.Shorthand {around = around} {default = default} {rest = others} field x ctxt role occurs inner more) = record {
  goes = λ w n e o m live notes rest.
      subst (λ l. Walks around w n e o m (h.Open field h.AssignPatProp ∷ l) rest) (append_assoc (binding None 0 x ctxt role ++ default) (h.Close ∷ []) others)
      (joined {front = node field h.AssignPatProp (binding None 0 x ctxt role ++ default)} (shorthand_one field x ctxt role occurs (spells_out (next w x)) refl (default_view inner) (walks inner).goes live notes) (walks more).goes live notes);
  first = no_first (λ rest. refl) refl;
}

-- what a walk makes of a list that fits, from where it begins
pub each_made : {around : Around} {items : List Item} → Fits around items → Goes around items
each_made them = (walks them).goes

-- what a walk makes of a whole list that fits
pub all_made : {items : List Item} → Fits Anywhere items → (w : Work) → Reworked w items (walked (fresh w) items).made
all_made {items} them w =
    let it : Walks Anywhere w (new_notes w.clears_notes) s.Plain [] [] items [] = each_made them w (new_notes w.clears_notes) s.Plain [] [] in_plain refl [] in
    record {
      rest = it.left;
      by = subst (λ l. Becomes Anywhere w items l it.left) (sym (ap (λ l. (walked (fresh w) l).made) (sym (append-nil items)) ∙ ap (λ state. state.made) it.goes)) it.by;
    }
