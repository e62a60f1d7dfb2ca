-- What is meant is the same in programs that are one but for the numbers of their modules.
use Rattle.std.proofs.Common.{◌≡◌, ℕ, suc, List, Option, Some, None, Contains, refl, sym, ap, subst}
use Rattle.std.specs.Prelude.{slice_get, true}
use Rattle.std.proofs.lemmas.Option.{none-some, same_Some}
use Rattle.bundle_syntax.specs.Item.{Item}
use Rattle.bundle_rules.specs.Scopes.{ModuleKind, Es, Top}
use Rattle.bundle_rules.specs.Declarations.{BySymbol}
use Rattle.bundle_rules.specs.Denotes.{Denoted, Bound, denoted_at}
use Rattle.bundle_rules.specs.Nodes.{Text}
use Rattle.bundle_rules.specs.Bound.{top_names}
use Rattle.bundle_rules.specs.Statements.{Element, own_statements}
use Rattle.bundle_rules.specs.Entries.{RequireCall}
use Rattle.bundle_rules.specs.Program.{Program, tree_of}
use Rattle.bundle_rules.specs.Linking as l
use Rattle.bundle_rules.specs.Linking.{Target, Declared, Namespace, StandsFor}
use Rattle.bundle_rules.specs.Reads.{read_word}
use Rattle.bundle_rules.specs.Meaning as m
use Rattle.bundle_rules.specs.Meaning.{Label, Of, Parameter, Load, Meta, Helper, View, Replacement, ReadsAs, Replaced, OwnName, HasKind, IsLeft, SaysAt, IsMeant, around_element, denoted, is_meta_at, label_of, plain}
use Rattle.bundle_link.specs.Alike.{IsAlike}
use Rattle.bundle_link.proofs.AlikeLemmas as k
use Rattle.bundle_link.proofs.AlikeLemmas.{AlikeTarget, flip, binds_on, called_on, common_js_on, linked_on, module_on, reached_on, same_calls, takes_on}
use Rattle.bundle_link.proofs.LeadLemmas.{bound_asks}

-- ---- labels
-- labels that are one but for the numbers of modules
pub data AlikeLabel (R : ℕ → ℕ → Type 0) : Label → Label → Type 0 where
  of : {t u : Target} → AlikeTarget R t u → AlikeLabel R (Of t) (Of u)
  parameter : {a b : ℕ} {x : Text} → R a b → AlikeLabel R (Parameter a x) (Parameter b x)
  load : {a b : ℕ} → R a b → AlikeLabel R (Load a) (Load b)
  meta : {a b : ℕ} → R a b → AlikeLabel R (Meta a) (Meta b)
  helper : AlikeLabel R Helper Helper

-- the module whose namespace the label is
abbrev pub namespace_in : Target → Option ℕ
namespace_in (Namespace a) = Some a
namespace_in _ = None

abbrev module_in : Label → Option ℕ
module_in (Of t) = namespace_in t
module_in _ = None

-- what is alike to a namespace is one
pub target_namespace : {R : ℕ → ℕ → Type 0} {t u : Target} → AlikeTarget R t u → (a : ℕ) → namespace_in t ≡ Some a → (b : ℕ) × (u ≡ Namespace b) × R a b
target_namespace (k.declared r) a e = absurd (none-some a e)
target_namespace {R = R} (k.namespace {a = c} {b = b} r) a e = (b, refl, subst (λ n. R n b) (same_Some c a e) r)
target_namespace k.external a e = absurd (none-some a e)
target_namespace (k.common_js r h) a e = absurd (none-some a e)

label_namespace : {R : ℕ → ℕ → Type 0} {n o : Label} → AlikeLabel R n o → (a : ℕ) → module_in n ≡ Some a → (b : ℕ) × (o ≡ Of (Namespace b)) × R a b
label_namespace (of alike) a e = let its = target_namespace alike a e in (its.0, ap Of its.1, its.2)
label_namespace (parameter r) a e = absurd (none-some a e)
label_namespace (load r) a e = absurd (none-some a e)
label_namespace (meta r) a e = absurd (none-some a e)
label_namespace helper a e = absurd (none-some a e)

-- ---- what elements of statements say
module _ (p q : Program) (R : ℕ → ℕ → Type 0) (w : IsAlike p q R) where
  stands_on : {a : ℕ} {x : Text} {t : Target} → StandsFor p a x t → (b : ℕ) → R a b → (u : Target) × AlikeTarget R t u × StandsFor q b x u
  stands_on {a = a} {x = x} (l.declared there none) b r = (Declared b x, k.declared r, l.declared (subst (λ (tree : List Item). Contains (top_names tree) x) (w.tree a b r) there) (binds_on p q R w a b x None r none))
  stands_on {a = a} {x = x} {t = t} (l.imported {y = y} {d = d} entry bound name leads linked) b r =
      let its = module_on p q R w a b d entry.specifier r (bound_asks (tree_of p a) x entry bound) leads in
      let on = linked_on p q R w d its.0 y t its.1 linked in
      (on.0, on.1, l.imported entry (binds_on p q R w a b x (Some entry) r bound) name its.2 on.2)
  stands_on {a = a} {x = x} (l.taken_whole entry bound takes) b r =
      let on = takes_on p q R w takes b r (bound_asks (tree_of p a) x entry bound) in
      (on.0, on.1, l.taken_whole entry (binds_on p q R w a b x (Some entry) r bound) on.2)

  reads_on : {a place : ℕ} {t : Target} → ReadsAs p a place t → (b : ℕ) → R a b → (u : Target) × AlikeTarget R t u × ReadsAs q b place u
  reads_on {a = a} {place = place} (m.by_name {x = x} denotes stands) b r =
      let on = stands_on stands b r in
      (on.0, on.1, m.by_name (subst (λ (tree : List Item). denoted_at BySymbol Es tree place ≡ Some (Bound Top (plain x))) (w.tree a b r) denotes) on.2)
  reads_on {a = a} {place = place} (m.by_read {d = d} {x = x} {t = t} word reads linked) b r =
      let its = reads_on reads b r in
      let space = target_namespace its.1 d refl in
      let on = linked_on p q R w d space.0 x t space.2 linked in
      (on.0, on.1, m.by_read (subst (λ (tree : List Item). read_word tree place ≡ Some x) (w.tree a b r) word) (subst (ReadsAs q b (suc place)) space.1 its.2) on.2)

  replaced_on : {a place : ℕ} {by : Replacement} → Replaced p a place by → (b : ℕ) → R a b → (its : Replacement) × AlikeLabel R (label_of by) (label_of its) × Replaced q b place its
  replaced_on {a = a} {place = place} (m.static_read {x = x} word reads) b r =
      let on = reads_on reads b r in
      (m.ByName (Of on.0), of on.1, m.static_read (subst (λ (tree : List Item). read_word tree place ≡ Some x) (w.tree a b r) word) on.2)
  replaced_on {a = a} {place = place} (m.import_meta is) b r =
      (m.ByName (Meta b), meta r, m.import_meta (subst (λ (tree : List Item). is_meta_at (slice_get tree place) ≡ true) (w.tree a b r) is))
  replaced_on {a = a} (m.require_call {c = c} call stands at leads) b r =
      let on = called_on p q R w a b c call r stands leads in
      (m.ByCall (Load on.0), load on.1, m.require_call call (subst (λ (calls : List RequireCall). Contains calls call) (same_calls p q R w a b r) stands) at on.2)

  own_on : {a : ℕ} {d : Denoted} {n : Label} → OwnName p a d n → (b : ℕ) → R a b → (o : Label) × AlikeLabel R n o × OwnName q b d o
  own_on (m.at_top stands) b r = let on = stands_on stands b r in (Of on.0, of on.1, m.at_top on.2)
  own_on (m.parameter {x = x}) b r = (Parameter b x, parameter r, m.parameter)

  kind_on : {a : ℕ} {kind : ModuleKind} → HasKind p a kind → (b : ℕ) → R a b → HasKind q b kind
  kind_on {a = a} (m.is_es es) b r = m.is_es (λ common. es (common_js_on q p (λ c d. R d c) (flip w) b a r common))
  kind_on {a = a} (m.is_common_js common) b r = m.is_common_js (common_js_on p q R w a b r common)

  says_on : {a : ℕ} {e : Element} {n : Label} → SaysAt p a e n → (b : ℕ) → R a b → (o : Label) × AlikeLabel R n o × SaysAt q b e o
  says_on {a = a} {e = e} (m.says_name {kind = kind} {d = d} is denotes own) b r =
      let on = own_on own b r in
      (on.0, on.1, m.says_name (kind_on is b r) (subst (λ (tree : List Item). let view : View = record { tree = tree; kind = kind; reading = BySymbol } in denoted view e ≡ Some d) (w.tree a b r) denotes) on.2)
  says_on (m.says_node replaced) b r = let on = replaced_on replaced b r in (label_of on.0, on.1, m.says_node on.2)

-- ---- what is meant
module _ (p q : Program) (R : ℕ → ℕ → Type 0) (w : IsAlike p q R) where
  -- what lies in no replaced node lies in none on the other side, where a node that is replaced is one on this side
  left_on : (a b : ℕ) (e : Element) → R a b → IsLeft p a e → IsLeft q b e
  left_on a b e r left = λ node by around replaced.
      let back = replaced_on q p (λ c d. R d c) (flip w) replaced a r in
      left node back.0 (subst (λ (tree : List Item). Contains (around_element tree e) node) (sym (w.tree a b r)) around) back.2

  pub meant_on : {n : Label} → IsMeant p n → (o : Label) × AlikeLabel R n o × IsMeant q o
  meant_on (m.by_statement {m = a} {statement = statement} {e = e} reached own there left says) =
      let its = reached_on p q R w a reached in
      let on = says_on p q R w says its.0 its.1 in
      (on.0, on.1, m.by_statement its.2 (subst (λ (tree : List Item). Contains (own_statements tree) statement) (w.tree a its.0 its.1) own) there (left_on a its.0 e its.1 left) on.2)
  meant_on (m.by_export {x = x} {t = t} linked) =
      let on = linked_on p q R w p.entry q.entry x t w.entry linked in
      (Of on.0, of on.1, m.by_export on.2)
  meant_on (m.by_namespace {d = d} {x = x} {t = t} meant linked) =
      let its = meant_on meant in
      let space = label_namespace its.1 d refl in
      let on = linked_on p q R w d space.0 x t space.2 linked in
      (Of on.0, of on.1, m.by_namespace (subst (IsMeant q) space.1 its.2) on.2)

  -- the namespace that is meant is that of a module on the other side, and is meant there
  pub namespace_there : (a : ℕ) → IsMeant p (Of (Namespace a)) → (b : ℕ) × R a b × IsMeant q (Of (Namespace b))
  namespace_there a meant =
      let its = meant_on meant in
      let space = label_namespace its.1 a refl in
      (space.0, space.2, subst (IsMeant q) space.1 its.2)

  -- the object of a module's namespace is meant where that of the module which stands for it is
  pub namespace_meant : (a b : ℕ) → R a b → IsMeant p (Of (Namespace a)) → IsMeant q (Of (Namespace b))
  namespace_meant a b r meant =
      let its = namespace_there a meant in
      subst (λ c. IsMeant q (Of (Namespace c))) (w.one a its.0 b its.1 r) its.2
