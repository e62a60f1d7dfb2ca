-- The form of a module, item by item.
-- The form of a module, from the forms of its items.
-- The text of bundles, object by object.
use Rattle.std.proofs.Common.{◌≡◌, ℕ, List, [], ◌∷◌, ◌++◌, Bool, true, false, codes, refl, sym, ap, ◌∙◌, subst, append_assoc, Option, Some, None, IsSomeAnd, flat_map as flat_map_modules, map, decimal}
use Rattle.std.specs.List.{flat_map, AllZip}
use Rattle.std.proofs.lemmas.Bool.{false≢true}
use Rattle.std.proofs.lemmas.List.{append-nil, append_cancel_right}
use Rattle.std.proofs.lemmas.List.Concat.{flat_map-append}
use Rattle.json.specs.Print.{escape_byte, quoted}
use Rattle.serde_json.specs.Data.{Items, Data, no_items, Members, object}
use Rattle.serde_json.specs.Written.{compact_text, comma_if, items_text}
use Rattle.serde_json.specs.Find.{as_array, get_member}
use Rattle.serde_json.specs.View.{items_of}
use Rattle.bundle_syntax.specs.Item as h
use Rattle.bundle_syntax.specs.Item.{Item, Head}
use Rattle.bundle_tree_ast.specs.declared.module.Module.{Module}
use Rattle.bundle_tree_ast.specs.declared.module.ModuleItem.{ModuleItem}
use Rattle.bundle_json_form.specs.Form
use Rattle.bundle_json_form.specs.Form.{Tree, Fields, Trees, no_trees, tree, tree_items, trees_items, fields_items, written, each_written, IsLaidOut, AreLaidOut, EachLaidOut, node, in_field, no_fields, ReadsEach, top, values, AreForms, IsForm}
use Rattle.bundle_json_form.specs.Texts.{AppendsForm}
use Rattle.bundle_json_form.proofs.OfKind.{is_after_first, past}
use Rattle.bundle_json_form.proofs.Growth.{append_nil, items_then, one_more}
use Rattle.bundle_json_form.specs.declared.layout.Shape.TheVariants
use Rattle.bundle_tree_listed.specs.Tree.{module_item_items, module_items}
use Rattle.bundle_scope_names.proofs.grown.Grown.{module_item_fit}
use Rattle.bundler_call.specs.declared.bundle.Bundle.{Bundle}
use Rattle.bundle_json_text.proofs.laid.Shown.{IsShownTree, shown_tree}
use Rattle.bundle_json_document.specs.Document.{no_document_notes, IsModuleForm}
use Rattle.bundle_json_document.specs.Stream.{AreModuleParts, IsBody}
use Rattle.bundle_json_document.specs.declared.stream.ModuleParts.{ModuleParts}
use Rattle.bundle_json_document.specs.Bundles.{bundle_name, object_of, AppendsBundle, IsObjectOf, IsBundlesText, IsTreeOf}
use Rattle.bundle_json_text.proofs.laid.Modules.{module_tree}

-- ---- by item

-- the list of the items of a module
abbrev pub items_in : List ModuleItem → List Item
items_in = flat_map (module_item_items 0)

-- an item is a tree
item_tree : (it : ModuleItem) → IsShownTree 0 (module_item_items 0 it)
item_tree it = shown_tree (module_item_fit 0 it)

is_none : List Item → Bool
is_none [] = true
is_none (it ∷ more) = false

some_first : (field : ℕ) (it : Tree) (more : List Item) → is_none (tree_items field it ++ more) ≡ false
unfolding is_none
some_first field (Form.ident name ctxt role) more = refl
some_first field Form.hole more = refl
some_first field (Form.node head inside) more = refl

-- Of two lists that begin with a tree, and are the same, the trees have one list, and the same follows.

same_after : (a b : Tree) (r s : List Item) → tree_items 0 a ++ r ≡ tree_items 0 b ++ s → r ≡ s
same_after a b r s is =
    let all = tree_items 0 a ++ r in
    sym (is_after_first all (past 0 all) refl 0 a r refl) ∙ is_after_first all (past 0 all) refl 0 b s is

same_first : (a b : Tree) (r s : List Item) → tree_items 0 a ++ r ≡ tree_items 0 b ++ s →
    tree_items 0 a ≡ tree_items 0 b
same_first a b r s is =
    append_cancel_right (tree_items 0 a) (tree_items 0 b) s
    (ap (λ l. tree_items 0 a ++ l) (sym (same_after a b r s is)) ∙ is)

-- What has been put in, and what is still to be put in, are the forms of the items.

-- these trees are those of the items
pub record AreTheirs (list : List ModuleItem) (them : Trees) : Type 0 where
  pub listed : items_in list ≡ trees_items 0 them
  pub laid : EachLaidOut them

-- the text with the forms of what is left is the old one with the forms of all
pub record IsOnTheWay (old text : List ℕ) (left : List ModuleItem) (later : Bool) (all : Items) : Type 0 where
  pub them : Trees
  pub theirs : AreTheirs left them
  pub so_far : text ++ items_text later (each_written them) ≡ old ++ items_text false all

abbrev pub ArePut : (old text : List ℕ) (whole left : List ModuleItem) (later : Bool) → Type 0
ArePut old text whole left later =
    (all : Trees) → AreTheirs whole all → IsOnTheWay old text left later (each_written all)

regroup : (a b c d : List ℕ) → ((a ++ b) ++ c) ++ d ≡ a ++ (b ++ (c ++ d))
regroup a b c d = simp append_assoc

one_put : (old text begun new : List ℕ) (more : List ModuleItem) (later : Bool) (it : ModuleItem)
    (all : Items) (them : Trees) → items_in (it ∷ more) ≡ trees_items 0 them → EachLaidOut them
    → text ++ items_text later (each_written them) ≡ old ++ items_text false all
    → begun ≡ text ++ comma_if later → AppendsForm (module_item_items 0 it) begun new
    → IsOnTheWay old new more true all
unfolding is_none
one_put old text begun new more later it all no_trees listed laid so_far comma puts =
    let shown = item_tree it in
    absurd (false≢true (sym (some_first 0 shown.tree (items_in more))
    ∙ ap is_none (ap (λ l. l ++ items_in more) (sym shown.listed) ∙ listed)))
one_put old text begun new more later it all (tree t rest) listed laid so_far comma puts =
    let shown = item_tree it in
    let same = ap (λ l. l ++ items_in more) (sym shown.listed) ∙ listed in
    record {
      them = rest;
      theirs = record { listed = same_after shown.tree t (items_in more) (trees_items 0 rest) same; laid = laid.1 };
      so_far =
          ap (λ l. l ++ items_text true (each_written rest))
          (puts 0 t (shown.listed ∙ same_first shown.tree t (items_in more) (trees_items 0 rest) same) laid.0
          ∙ ap (λ l. l ++ compact_text (written t)) comma)
          ∙ regroup text (comma_if later) (compact_text (written t)) (items_text true (each_written rest))
          ∙ so_far;
    }

pub item_put : (old text begun new : List ℕ) (whole left more : List ModuleItem) (later : Bool) (it : ModuleItem)
    → ArePut old text whole left later → left ≡ it ∷ more → begun ≡ text ++ comma_if later
    → AppendsForm (module_item_items 0 it) begun new → ArePut old new whole more true
item_put old text begun new whole left more later it before next comma puts all theirs =
    let way = before all theirs in
    one_put old text begun new more later it (each_written all) way.them
    (ap items_in (sym next) ∙ way.theirs.listed) way.theirs.laid way.so_far comma puts

-- The whole module.

-- nothing is left
all_put : (old text : List ℕ) (later : Bool) (all : Items) (them : Trees) → [] ≡ trees_items 0 them
    → text ++ items_text later (each_written them) ≡ old ++ items_text false all
    → text ++ 93 ∷ [] ≡ old ++ items_text false all
unfolding is_none
all_put old text later all no_trees none so_far = so_far
all_put old text later all (tree t rest) none so_far =
    absurd (false≢true (sym (some_first 0 t (trees_items 0 rest)) ∙ ap is_none (sym none)))

module_text : (them : Trees) → compact_text (written (Form.node h.Module (Form.in_field 0 them Form.no_fields)))
    ≡ codes "{\"body\":[" ++ (items_text false (each_written them) ++ codes ",\"type\":\"Module\"}")
unfolding escape_byte
module_text them = refl

head_in : List Item → Head
head_in (h.Open field head ∷ more) = head
head_in _ = h.Super

inner : List Item → List Item
inner [] = []
inner (it ∷ more) = more

is_open : List Item → Bool
is_open (h.Open field head ∷ more) = true
is_open _ = false

closed : (body : List ModuleItem) → List Item
closed body = h.Open 0 h.Module ∷ (items_in body ++ (h.Close ∷ []))

put_fields : (opened text new : List ℕ) (body : List ModuleItem) (later : Bool) (old : List ℕ) (inside : Fields)
    → opened ≡ old ++ codes "{\"body\":[" → ArePut opened text body [] later
    → new ≡ text ++ codes "],\"type\":\"Module\"}"
    → items_in body ≡ fields_items inside → AreLaidOut (Form.node_fields h.Module) inside
    → new ≡ old ++ compact_text (written (Form.node h.Module inside))
put_fields opened text new body later old Form.no_fields opens put ends listed laid = absurd laid
put_fields opened text new body later old (Form.in_field number them (Form.in_field other more rest)) opens put ends listed laid = absurd laid.3
put_fields opened text new body later old (Form.in_field number them Form.no_fields) opens put ends listed laid =
    let theirs : AreTheirs body them = record {
      listed = listed ∙ append-nil (trees_items number them) ∙ ap (λ n. trees_items n them) laid.0;
      laid = laid.2;
    } in
    let way = put them theirs in
    let filled = all_put opened text later (each_written them) way.them way.theirs.listed way.so_far in
    ends
    ∙ sym (append_assoc text (93 ∷ []) (codes ",\"type\":\"Module\"}"))
    ∙ ap (λ l. l ++ codes ",\"type\":\"Module\"}") (filled ∙ ap (λ l. l ++ items_text false (each_written them)) opens)
    ∙ gather old (codes "{\"body\":[") (items_text false (each_written them)) (codes ",\"type\":\"Module\"}")
    ∙ ap (λ l. old ++ l) (sym (module_text them))
    ∙ ap (λ n. old ++ compact_text (written (Form.node h.Module (Form.in_field n them Form.no_fields)))) (sym laid.0)
  where
    gather : (a b c d : List ℕ) → ((a ++ b) ++ c) ++ d ≡ a ++ (b ++ (c ++ d))
    gather a b c d = simp append_assoc

put_tree : (opened text new : List ℕ) (body : List ModuleItem) (later : Bool) (old : List ℕ) (field : ℕ) (it : Tree)
    → opened ≡ old ++ codes "{\"body\":[" → ArePut opened text body [] later
    → new ≡ text ++ codes "],\"type\":\"Module\"}"
    → closed body ≡ tree_items field it → IsLaidOut it
    → new ≡ old ++ compact_text (written it)
unfolding closed is_open head_in inner
put_tree opened text new body later old field (Form.ident name ctxt role) opens put ends listed laid =
    absurd (false≢true (sym (ap is_open listed)))
put_tree opened text new body later old field Form.hole opens put ends listed laid =
    absurd (false≢true (sym (ap is_open listed)))
put_tree opened text new body later old field (Form.node head inside) opens put ends listed laid =
    let same : h.Module ≡ head = ap head_in listed in
    subst (λ hd. new ≡ old ++ compact_text (written (Form.node hd inside))) same
    (put_fields opened text new body later old inside opens put ends
    (append_cancel_right (items_in body) (fields_items inside) (h.Close ∷ []) (ap inner listed))
    (subst (λ hd. AreLaidOut (Form.node_fields hd) inside) (sym same) laid))

pub module_put : (opened text new old : List ℕ) (it : Module) (left : List ModuleItem) (later : Bool)
    → opened ≡ old ++ codes "{\"body\":[" → ArePut opened text it.body.items left later → left ≡ []
    → new ≡ text ++ codes "],\"type\":\"Module\"}" → AppendsForm (module_items 0 it) old new
unfolding closed
module_put opened text new old it left later opens put none ends field t listed laid =
    put_tree opened text new it.body.items later old field t opens
    (subst (λ l. ArePut opened text it.body.items l later) none put) ends listed laid

-- ---- modules
pub no_forms : AreForms no_document_notes top no_items []
no_forms = record { them = no_trees; read = tt; listed = refl }

-- the forms so far, and one more
pub forms_more : (ds : Items) (d : Data) (old more : List Item) → AreForms no_document_notes top ds old → IsForm no_document_notes top d more → AreForms no_document_notes top (items_then ds d) (old ++ more)
forms_more ds d old more so_far last =
    let grown = one_more no_document_notes top ds d [] old (old ++ more) (record { added = old; holds = so_far; grown = refl }) (record { added = more; holds = last; grown = refl }) in
    subst (AreForms no_document_notes top (items_then ds d)) (sym grown.grown) grown.holds

-- the items so far, and those of one form more
pub items_more : (ds : Items) (d : Data) (old more new : List ModuleItem) → AreForms no_document_notes top ds (flat_map_modules (module_item_items 0) old) → IsForm no_document_notes top d (flat_map_modules (module_item_items 0) more) → new ≡ old ++ more
    → AreForms no_document_notes top (items_then ds d) (flat_map_modules (module_item_items 0) new)
items_more ds d old more new so_far last is =
    let listed : flat_map_modules (module_item_items 0) new ≡ flat_map_modules (module_item_items 0) old ++ flat_map_modules (module_item_items 0) more = ap (flat_map_modules (module_item_items 0)) is ∙ flat_map-append (module_item_items 0) old more in
    subst (AreForms no_document_notes top (items_then ds d)) (sym listed) (forms_more ds d _ _ so_far last)

-- trees that are read of what stands under the key of the items
pub record HasTrees (o : Option Data) (items : List ModuleItem) : Type 0 where
  pub them : Trees
  pub read : IsSomeAnd (values TheVariants.List o) (λ ds. ReadsEach no_document_notes top ds them)
  pub listed : flat_map_modules (module_item_items 0) items ≡ trees_items 0 them

of_forms : (d : Data) (o : Option Items) (items : List ModuleItem) → as_array d ≡ o → IsSomeAnd o (λ ds. AreForms no_document_notes top ds (flat_map_modules (module_item_items 0) items)) → HasTrees (Some d) items
of_forms d None items is forms = absurd forms
of_forms d (Some ds) items is forms = record { them = forms.them; read = rw is forms.read; listed = forms.listed }

trees_of : (o : Option Data) (items : List ModuleItem) → IsBody o items → HasTrees o items
trees_of None items body = record { them = no_trees; read = tt; listed = ap (flat_map_modules (module_item_items 0)) body }
trees_of (Some d) items body = of_forms d (as_array d) items refl body

-- a module of these parts has its form
pub module_form : (ms : Members) (parts : ModuleParts) → AreModuleParts ms parts → parts.is_module ≡ true → IsModuleForm (object ms) parts.items
module_form ms parts are kind =
    let trees = trees_of (get_member (codes "body") ms) parts.items.body.items are.body in
    let inside : flat_map_modules (module_item_items 0) parts.items.body.items ≡ trees_items 0 trees.them ++ [] = trees.listed ∙ sym (append_nil (trees_items 0 trees.them)) in
    record {
      it = node h.Module (in_field 0 trees.them no_fields);
      read = (record { named = are.kind kind; filled = tt; noted = tt }, (refl, trees.read, tt));
      listed = ap (λ them. h.Open 0 h.Module ∷ (them ++ (h.Close ∷ []))) inside;
    }

-- what a module has, by its list
pub inside : (it : Module) (them : List Item) → module_items 0 it ≡ h.Open 0 h.Module ∷ (them ++ h.Close ∷ []) → flat_map_modules (module_item_items 0) it.body.items ≡ them
inside it them e = append_cancel_right (flat_map_modules (module_item_items 0) it.body.items) them (h.Close ∷ []) (cc)

-- ---- objects

-- The object of a bundle.

tree_of : Bundle → Tree
tree_of bundle = (module_tree bundle.module).tree

is_tree : (bundle : Bundle) → IsTreeOf bundle (tree_of bundle)
unfolding tree_of
is_tree bundle = let shown = module_tree bundle.module in (shown.listed, shown.laid)

pub object_at : Bundle → Data
object_at bundle = object_of bundle (written (tree_of bundle))

each_object : (bundles : List Bundle) → AllZip IsObjectOf bundles (map object_at bundles)
unfolding object_at
each_object [] = tt
each_object (bundle ∷ more) = ((tree_of bundle, is_tree bundle, refl), each_object more)

object_text : (bundle : Bundle) (form : Data) → compact_text (object_of bundle form)
    ≡ codes "{\"id\":" ++ (quoted (decimal bundle.id) ++ (codes ",\"kind\":\"Named\",\"module\":"
    ++ (compact_text form ++ (codes ",\"name\":" ++ (quoted (bundle_name bundle.kind) ++ 125 ∷ [])))))
unfolding escape_byte
object_text bundle form = refl

pub object_put : (bundle : Bundle) (old opened numbered kind formed keyed named new number name : List ℕ)
    → opened ≡ old ++ codes "{\"id\":" → number ≡ decimal bundle.id → numbered ≡ opened ++ quoted number
    → kind ≡ numbered ++ codes ",\"kind\":\"Named\",\"module\":"
    → AppendsForm (module_items 0 bundle.module) kind formed
    → keyed ≡ formed ++ codes ",\"name\":" → name ≡ bundle_name bundle.kind → named ≡ keyed ++ quoted name
    → new ≡ named ++ 125 ∷ [] → AppendsBundle bundle old new
object_put bundle old opened numbered kind formed keyed named new number name
    opens digits numbers kinds forms keys is_name names ends it laid =
    let whole : new ≡ old ++ (codes "{\"id\":" ++ (quoted (decimal bundle.id) ++ (codes ",\"kind\":\"Named\",\"module\":"
    ++ (compact_text (written it) ++ (codes ",\"name\":" ++ (quoted (bundle_name bundle.kind) ++ 125 ∷ []))))))
    = rw (ends, names, is_name, keys, forms 0 it laid.0 laid.1, kinds, numbers, digits, opens)
    (regroup old (codes "{\"id\":") (quoted (decimal bundle.id)) (codes ",\"kind\":\"Named\",\"module\":")
    (compact_text (written it)) (codes ",\"name\":") (quoted (bundle_name bundle.kind)) (125 ∷ [])) in
    whole ∙ ap (λ l. old ++ l) (sym (object_text bundle (written it)))
  where
    regroup : (o a b c d e f g : List ℕ)
        → (((((((o ++ a) ++ b) ++ c) ++ d) ++ e) ++ f) ++ g) ≡ o ++ (a ++ (b ++ (c ++ (d ++ (e ++ (f ++ g))))))
    regroup o a b c d e f g = simp append_assoc

-- The array of the objects.

-- what has been put in, and what is still to be put in, is the whole
pub record AreObjects (old text : List ℕ) (whole left : List Bundle) (later : Bool) : Type 0 where
  pub so_far : text ++ items_text later (items_of (map object_at left))
      ≡ old ++ items_text false (items_of (map object_at whole))

pub one_object : (old text begun new : List ℕ) (whole left more : List Bundle) (later : Bool) (bundle : Bundle)
    → AreObjects old text whole left later → left ≡ bundle ∷ more → begun ≡ text ++ comma_if later
    → AppendsBundle bundle begun new → AreObjects old new whole more true
unfolding object_at
one_object old text begun new whole left more later bundle before next comma puts = record {
  so_far =
      ap (λ l. l ++ items_text true (items_of (map object_at more)))
      (puts (tree_of bundle) (is_tree bundle) ∙ ap (λ l. l ++ compact_text (object_at bundle)) comma)
      ∙ regroup text (comma_if later) (compact_text (object_at bundle)) (items_text true (items_of (map object_at more)))
      ∙ ap (λ them. text ++ items_text later (items_of (map object_at them))) (sym next)
      ∙ before.so_far;
}
  where
    regroup : (a b c d : List ℕ) → ((a ++ b) ++ c) ++ d ≡ a ++ (b ++ (c ++ d))
    regroup a b c d = simp append_assoc

pub text_is : (opened text new : List ℕ) (bundles left : List Bundle) (later : Bool) → opened ≡ 91 ∷ []
    → AreObjects opened text bundles left later → left ≡ [] → new ≡ text ++ 93 ∷ [] → IsBundlesText bundles new
text_is opened text new bundles left later opens are none ends = (
  map object_at bundles,
  each_object bundles,
  ends
      ∙ ap (λ them. text ++ items_text later (items_of (map object_at them))) (sym none)
      ∙ are.so_far
      ∙ ap (λ l. l ++ items_text false (items_of (map object_at bundles))) opens,
)
