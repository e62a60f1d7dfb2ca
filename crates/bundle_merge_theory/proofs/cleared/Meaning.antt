-- What statements mean in programs whose modules are the same once their trees are cleared, and
-- what is meant.
use Rattle.std.proofs.Common.{◌≡◌, ℕ, zero, suc, List, [], ◌∷◌, ◌++◌, Some, Contains, map, refl, sym, ap, ◌∙◌, subst, arith}
use Rattle.std.specs.Prelude.{filter, filter_map, slice_get}
use Rattle.std.specs.List.{AllZip, cons_option}
use Rattle.bundle_syntax.specs.declared.piece.Role.{Role}
use Rattle.bundle_syntax.specs.declared.piece.Role.TheVariants.{Word as IsWord}
use Rattle.bundle_syntax.specs.Item as h
use Rattle.bundle_syntax.specs.Item.{Head, Item}
use Rattle.bundle_rules.specs.Cleared.{cleared_head}
use Rattle.bundle_rules.specs.Declarations.{BySymbol}
use Rattle.bundle_rules.specs.Denotes.{Denoted, Bound, denoted_at}
use Rattle.bundle_rules.specs.Linking.{Target}
use Rattle.bundle_rules.specs.Marks as k
use Rattle.bundle_rules.specs.Meaning as v
use Rattle.bundle_rules.specs.Meaning.{Label, Meant, Mark, Sense, Replacement, NameMeans, Means, ReadsAs, Replaced, OwnName, HasKind, OwnMeaning, IsLeft, SaysAt, IsMeant, around_element, denoted, inner_bindings, is_inside, each_denoted_once, is_meta_at, own_view, own_sense, past_end, plain}
use Rattle.bundle_rules.specs.Nodes.{Text}
use Rattle.bundle_rules.specs.Places.{Around, path_at}
use Rattle.bundle_rules.specs.Program.{Program, tree_of}
use Rattle.bundle_rules.specs.Reads.{read_word}
use Rattle.bundle_rules.specs.Scopes.{ModuleKind, Es, Top}
use Rattle.bundle_rules.specs.Statements.{Element, taken, written, own_statements}
use Rattle.bundle_rules.proofs.DenotesLemmas.{denoted_at-cleared}
use Rattle.bundle_rules.proofs.PathLemmas.{cleared_path, path_at-cleared}
use Rattle.bundle_rules.proofs.ReadLemmas.{is_meta_at-cleared, read_word-cleared}
use Rattle.bundle_link_index.proofs.ProgramLemmas.{later, map_back, map_on}
use Rattle.bundle_merge_theory.specs.cleared.Programs.{AreSameCleared, ModulesByNumber, with_modules}
use Rattle.bundle_merge_theory.specs.cleared.Elements.{begins, named, empty, ended, SameElement, of_tree, in_addition, SameElements}
use Rattle.bundle_merge_theory.proofs.cleared.Trees.{same-statements}
use Rattle.bundle_merge_theory.proofs.cleared.Marks.{same-begin, same-end, same-name}
use Rattle.bundle_merge_theory.proofs.cleared.Linking.{turned, same-read, same-calls, common-on, common-back, linked-on, stands-on, reached-on}

module _ (p : Program) (f g : ModulesByNumber) (w : AreSameCleared f g) where
  -- the two programs
  abbrev first : Program
  first = with_modules p f

  abbrev second : Program
  second = with_modules p g

  pub same-denoted : (kind : ModuleKind) (m place : ℕ) →
      denoted_at BySymbol kind (tree_of first m) place
      ≡ denoted_at BySymbol kind (tree_of second m) place
  same-denoted kind m place =
      same-read p f g w (λ tree. denoted_at BySymbol kind tree place)
      (λ tree. denoted_at-cleared kind tree place) m

  same-word : (m place : ℕ) → read_word (tree_of first m) place ≡ read_word (tree_of second m) place
  same-word m place =
      same-read p f g w (λ tree. read_word tree place) (λ tree. read_word-cleared tree place) m

  -- ---- what is replaced
  reads-on : {m place : ℕ} {t : Target} → ReadsAs first m place t → ReadsAs second m place t
  reads-on {m = m} (v.by_name {place = place} {x = x} at stands) =
      v.by_name (sym (same-denoted Es m place) ∙ at) (stands-on p f g w stands)
  reads-on {m = m} (v.by_read {place = place} {d = d} {x = x} {t = t} word more links) =
      v.by_read (sym (same-word m place) ∙ word) (reads-on more) (linked-on p f g w d x t links)

  pub replaced-on : {m place : ℕ} {by : Replacement} → Replaced first m place by →
      Replaced second m place by
  replaced-on {m = m} (v.static_read {place = place} word reads) =
      v.static_read (sym (same-word m place) ∙ word) (reads-on reads)
  replaced-on {m = m} (v.import_meta {place = place} is) =
      v.import_meta
      (sym (same-read p f g w (λ tree. is_meta_at (slice_get tree place))
      (λ tree. is_meta_at-cleared tree place) m) ∙ is)
  replaced-on {m = m} (v.require_call call stands at leads) =
      v.require_call call (subst (λ l. Contains l call) (same-calls p f g w m) stands) at leads

  -- ---- names
  pub own-on : {m : ℕ} {d : Denoted} {l : Label} → OwnName first m d l → OwnName second m d l
  own-on (v.at_top stands) = v.at_top (stands-on p f g w stands)
  own-on v.parameter = v.parameter

  pub kind-on : {m : ℕ} {kind : ModuleKind} → HasKind first m kind → HasKind second m kind
  kind-on {m = m} (v.is_es not) = v.is_es (λ common. not (common-back p f g w m common))
  kind-on {m = m} (v.is_common_js common) = v.is_common_js (common-on p f g w m common)

  pub element-denoted : (m : ℕ) (kind : ModuleKind) {e its : Element} → SameElement e its →
      denoted (own_view first m kind) e ≡ denoted (own_view second m kind) its
  element-denoted m kind (of_tree {place = place} same) = same-denoted kind m place
  element-denoted m kind (in_addition (begins same)) = refl
  element-denoted m kind (in_addition named) = refl
  element-denoted m kind (in_addition empty) = refl
  element-denoted m kind (in_addition ended) = refl

  all-denoted : (m : ℕ) (kind : ModuleKind) (es its : List Element) → SameElements es its →
      filter_map (denoted (own_view first m kind)) es
      ≡ filter_map (denoted (own_view second m kind)) its
  all-denoted m kind [] [] all = refl
  all-denoted m kind [] (y ∷ its) all = absurd all
  all-denoted m kind (x ∷ es) [] all = absurd all
  all-denoted m kind (x ∷ es) (y ∷ its) all =
      λ i. cons_option (element-denoted m kind all.0 i) (all-denoted m kind es its all.1 i)

  -- the bindings inside a statement
  pub same-inner : (m : ℕ) (kind : ModuleKind) (start : ℕ) (es its : List Element) →
      SameElements es its →
      inner_bindings (own_view first m kind) start es
      ≡ inner_bindings (own_view second m kind) start its
  same-inner m kind start es its all =
      ap (λ l. each_denoted_once (filter (is_inside start) l)) (all-denoted m kind es its all)

-- what follows the end of a node
past-by : (e f : Element) (es fs : List Element) → SameElement e f → SameElements es fs →
    ((depth : ℕ) → SameElements (past_end depth es) (past_end depth fs)) → (depth : ℕ) →
    SameElements (past_end depth (e ∷ es)) (past_end depth (f ∷ fs))
past-by _ _ es fs (of_tree (begins same)) all rest depth = rest (suc depth)
past-by _ _ es fs (of_tree named) all rest depth = rest depth
past-by _ _ es fs (of_tree empty) all rest depth = rest depth
past-by _ _ es fs (of_tree ended) all rest zero = all
past-by _ _ es fs (of_tree ended) all rest (suc depth) = rest depth
past-by _ _ es fs (in_addition (begins same)) all rest depth = rest (suc depth)
past-by _ _ es fs (in_addition named) all rest depth = rest depth
past-by _ _ es fs (in_addition empty) all rest depth = rest depth
past-by _ _ es fs (in_addition ended) all rest zero = all
past-by _ _ es fs (in_addition ended) all rest (suc depth) = rest depth

past-same : (es fs : List Element) → SameElements es fs → (depth : ℕ) →
    SameElements (past_end depth es) (past_end depth fs)
past-same [] [] all depth = tt
past-same [] (f ∷ fs) all depth = absurd all
past-same (e ∷ es) [] all depth = absurd all
past-same (e ∷ es) (f ∷ fs) all depth =
    past-by e f es fs all.0 all.1 (past-same es fs all.1) depth

module _ (p : Program) (f g : ModulesByNumber) (w : AreSameCleared f g) (n : ℕ) (kind : ModuleKind) where
  abbrev first_sense : Sense
  first_sense = own_sense (with_modules p f) n kind

  abbrev second_sense : Sense
  second_sense = own_sense (with_modules p g) n kind

  abbrev first_tree : List Item
  first_tree = tree_of (with_modules p f) n

  abbrev second_tree : List Item
  second_tree = tree_of (with_modules p g) n

  name-on : {inner : List Denoted} {d : Denoted} {meant : Meant} →
      NameMeans first_sense inner d meant → NameMeans second_sense inner d meant
  name-on (v.inside at) = v.inside at
  name-on (v.outside none stands) = v.outside none (own-on p f g w stands)
  name-on v.unbound = v.unbound

  kept-on : {place : ℕ} → ((by : Replacement) → Replaced (with_modules p f) n place by → ⊥) →
      (by : Replacement) → Replaced (with_modules p g) n place by → ⊥
  kept-on none by is = none by (replaced-on p g f (turned w) is)

  module _ (inner : List Denoted) where
    -- what elements mean in the second program
    abbrev MeansThere : List Element → List Mark → Type 0
    MeansThere es marks = Means second_sense inner es marks

    -- the first element, where what follows means what follows
    replaced-first : {e : Element} {place field : ℕ} {head : Head} {marks : List Mark}
        (fs : List Element) (by : Replacement) →
        SameElement (taken place (h.Open field head)) e →
        Replaced (with_modules p f) n place by → MeansThere (past_end zero fs) marks →
        MeansThere (e ∷ fs) (v.replacement_marks field by ++ marks)
    replaced-first fs by (of_tree (begins same)) is more =
        v.replaced by (replaced-on p f g w is) more

    begun-first : {e : Element} {place field : ℕ} {head : Head} {marks : List Mark}
        (fs : List Element) → SameElement (taken place (h.Open field head)) e →
        ((by : Replacement) → Replaced (with_modules p f) n place by → ⊥) →
        MeansThere fs marks →
        MeansThere (e ∷ fs)
        (k.begin_marks first_tree place field (path_at first_tree place) head ++ marks)
    begun-first {place = place} {field = field} {head = head} {marks = marks} fs
        (of_tree (begins {other = other} same)) none more =
        subst (λ l. MeansThere (taken place (h.Open field other) ∷ fs) (l ++ marks))
        (sym (same-begin first_tree second_tree (w.trees n) place field head other same))
        (v.begun (kept-on none) more)

    ended-first : {e : Element} {place : ℕ} {marks : List Mark} (fs : List Element) →
        SameElement (taken place h.Close) e → MeansThere fs marks →
        MeansThere (e ∷ fs) (k.end_marks first_tree (path_at first_tree place) ++ marks)
    ended-first {place = place} {marks = marks} fs (of_tree ended) more =
        subst (λ l. MeansThere (taken place h.Close ∷ fs) (l ++ marks))
        (sym (same-end first_tree second_tree (w.trees n) place)) (v.ended more)

    empty-first : {e : Element} {place field : ℕ} {marks : List Mark} (fs : List Element) →
        SameElement (taken place (h.Hole field)) e → MeansThere fs marks →
        MeansThere (e ∷ fs) (k.Empty field ∷ marks)
    empty-first fs (of_tree empty) more = v.empty more

    named-first : {e : Element} {place field ctxt : ℕ} {sym : Text} {role : Role}
        {marks : List Mark} (fs : List Element) (d : Denoted) (meant : Meant) →
        SameElement (taken place (h.Ident field sym ctxt role)) e →
        denoted (own_view (with_modules p f) n kind) (taken place (h.Ident field sym ctxt role))
        ≡ Some d →
        NameMeans first_sense inner d meant → MeansThere fs marks →
        MeansThere (e ∷ fs) (k.name_marks field (path_at first_tree place) sym meant ++ marks)
    named-first {place = place} {field = field} {sym = x} {role = role} {marks = marks} fs d meant
        (of_tree (named {b = ctxt})) at means more =
        subst (λ l. MeansThere (taken place (h.Ident field x ctxt role) ∷ fs) (l ++ marks))
        (sym (same-name first_tree second_tree (w.trees n) place field x meant))
        (v.named d meant (sym (same-denoted p f g w kind n place) ∙ at) (name-on means) more)

    word-first : {e : Element} {place field ctxt : ℕ} {sym : Text} {marks : List Mark}
        (fs : List Element) → SameElement (taken place (h.Ident field sym ctxt IsWord)) e →
        MeansThere fs marks → MeansThere (e ∷ fs) (k.Word field sym ∷ marks)
    word-first fs (of_tree named) more = v.word more

    adds_begin-first : {e : Element} {field : ℕ} {head : Head} {marks : List Mark}
        (fs : List Element) → SameElement (written (h.Open field head)) e →
        MeansThere fs marks → MeansThere (e ∷ fs) (k.Begins field (cleared_head head) ∷ marks)
    adds_begin-first {field = field} {marks = marks} fs
        (in_addition (begins {other = other} same)) more =
        subst (λ top. MeansThere (written (h.Open field other) ∷ fs) (k.Begins field top ∷ marks))
        (sym same) (v.adds_begin more)

    adds_end-first : {e : Element} {marks : List Mark} (fs : List Element) →
        SameElement (written h.Close) e → MeansThere fs marks →
        MeansThere (e ∷ fs) (k.Ends ∷ marks)
    adds_end-first fs (in_addition ended) more = v.adds_end more

    adds_name-first : {e : Element} {field ctxt : ℕ} {sym : Text} {role : Role} {marks : List Mark}
        (fs : List Element) (meant : Meant) →
        SameElement (written (h.Ident field sym ctxt role)) e →
        NameMeans first_sense inner (Bound Top (plain sym)) meant → MeansThere fs marks →
        MeansThere (e ∷ fs) (k.Name field meant ∷ marks)
    adds_name-first fs meant (in_addition named) means more = v.adds_name meant (name-on means) more

    -- a list means what the same list means
    pub means-on : {es : List Element} {marks : List Mark} → Means first_sense inner es marks →
        (fs : List Element) → SameElements es fs → MeansThere fs marks
    means-on v.finished [] all = v.finished
    means-on v.finished (f ∷ fs) all = absurd all
    means-on (v.replaced by is more) [] all = absurd all
    means-on (v.replaced {rest = rest} by is more) (f ∷ fs) all =
        replaced-first fs by all.0 is
        (means-on more (past_end zero fs) (past-same rest fs all.1 zero))
    means-on (v.begun none more) [] all = absurd all
    means-on (v.begun none more) (f ∷ fs) all = begun-first fs all.0 none (means-on more fs all.1)
    means-on (v.ended more) [] all = absurd all
    means-on (v.ended more) (f ∷ fs) all = ended-first fs all.0 (means-on more fs all.1)
    means-on (v.empty more) [] all = absurd all
    means-on (v.empty more) (f ∷ fs) all = empty-first fs all.0 (means-on more fs all.1)
    means-on (v.named d meant at means more) [] all = absurd all
    means-on (v.named d meant at means more) (f ∷ fs) all =
        named-first fs d meant all.0 at means (means-on more fs all.1)
    means-on (v.word more) [] all = absurd all
    means-on (v.word more) (f ∷ fs) all = word-first fs all.0 (means-on more fs all.1)
    means-on (v.adds_begin more) [] all = absurd all
    means-on (v.adds_begin more) (f ∷ fs) all = adds_begin-first fs all.0 (means-on more fs all.1)
    means-on (v.adds_end more) [] all = absurd all
    means-on (v.adds_end more) (f ∷ fs) all = adds_end-first fs all.0 (means-on more fs all.1)
    means-on (v.adds_name meant means more) [] all = absurd all
    means-on (v.adds_name meant means more) (f ∷ fs) all =
        adds_name-first fs meant all.0 means (means-on more fs all.1)

-- ---- what stands beside an element of a list
zip-there : {E : Type 0} (R : E → E → Type 0) (xs ys : List E) → AllZip R xs ys → (x : E) →
    Contains xs x → (y : E) × Contains ys y × R x y
zip-there R [] [] all x (i, h, e) = absurd (omega arith)
zip-there R [] (y ∷ ys) all x there = absurd all
zip-there R (z ∷ xs) [] all x there = absurd all
zip-there R (z ∷ xs) (y ∷ ys) all x (zero, h, e) =
    (y, (0, omega arith, refl), subst (λ k. R k y) e all.0)
zip-there R (z ∷ xs) (y ∷ ys) all x (suc i, h, e) =
    let rest = zip-there R xs ys all.1 x (i, omega arith, e) in
    (rest.0, later y ys rest.0 rest.1, rest.2)

-- where the nodes around a place begin
abbrev begins_of : List Around → List ℕ
begins_of path = map (λ (node : Around). node.begins) path

begins-path : (path : List Around) → begins_of (cleared_path path) ≡ begins_of path
begins-path [] = refl
begins-path (node ∷ outer) = ap (λ l. node.begins ∷ l) (begins-path outer)

module _ (p : Program) (f g : ModulesByNumber) (w : AreSameCleared f g) where
  -- ---- what is meant
  around-same : (n : ℕ) {e its : Element} → SameElement e its →
      begins_of (around_element (tree_of (with_modules p f) n) e)
      ≡ begins_of (around_element (tree_of (with_modules p g) n) its)
  around-same n (of_tree {place = place} same) =
      same-read p f g w (λ tree. begins_of (path_at tree place))
      (λ tree. ap begins_of (path_at-cleared tree place) ∙ begins-path (path_at tree place)) n
  around-same n (in_addition same) = refl

  left-on : (n : ℕ) {e its : Element} → SameElement e its → IsLeft (with_modules p f) n e →
      IsLeft (with_modules p g) n its
  left-on n {e = e} {its = its} same left node by there is =
      let old = around_element (tree_of (with_modules p f) n) e in
      let new = around_element (tree_of (with_modules p g) n) its in
      let was =
      map_back (λ (around : Around). around.begins) old node.begins
      (subst (λ l. Contains l node.begins) (sym (around-same n same))
      (map_on (λ (around : Around). around.begins) new node there)) in
      left was.0 by was.1
      (subst (λ place. Replaced (with_modules p f) n place by) (sym was.2)
      (replaced-on p g f (turned w) is))

  node-on : (n : ℕ) {place field : ℕ} {head : Head} {its : Element} {by : Replacement} →
      SameElement (taken place (h.Open field head)) its → Replaced (with_modules p f) n place by →
      SaysAt (with_modules p g) n its (v.label_of by)
  node-on n (of_tree (begins same)) is = v.says_node (replaced-on p f g w is)

  says-on : (n : ℕ) {e its : Element} {l : Label} → SaysAt (with_modules p f) n e l →
      SameElement e its → SaysAt (with_modules p g) n its l
  says-on n (v.says_name {kind = kind} has at stands) same =
      v.says_name (kind-on p f g w has) (sym (element-denoted p f g w n kind same) ∙ at)
      (own-on p f g w stands)
  says-on n (v.says_node is) same = node-on n same is

  pub statements-on : (n : ℕ) →
      AllZip SameElements (own_statements (tree_of (with_modules p f) n))
      (own_statements (tree_of (with_modules p g) n))
  statements-on n =
      same-statements (tree_of (with_modules p f) n) (tree_of (with_modules p g) n) (w.trees n)

  pub meant-on : {l : Label} → IsMeant (with_modules p f) l → IsMeant (with_modules p g) l
  meant-on (v.by_statement {m = n} {statement = statement} {e = e} reached there inside left says) =
      let its =
      zip-there SameElements (own_statements (tree_of (with_modules p f) n))
      (own_statements (tree_of (with_modules p g) n)) (statements-on n) statement there in
      let one = zip-there SameElement statement its.0 its.2 e inside in
      v.by_statement (reached-on p f g w n reached) its.1 one.1 (left-on n one.2 left)
      (says-on n says one.2)
  meant-on (v.by_export {x = x} {t = t} links) =
      v.by_export (linked-on p f g w p.entry x t links)
  meant-on (v.by_namespace {d = d} {x = x} {t = t} meant links) =
      v.by_namespace (meant-on meant) (linked-on p f g w d x t links)

  -- what an own statement means
  pub own-meaning-on : (n : ℕ) (statement its : List Element) → SameElements statement its →
      (marks : List Mark) → OwnMeaning (with_modules p f) n statement marks →
      OwnMeaning (with_modules p g) n its marks
  own-meaning-on n statement its same marks means = record {
    kind = means.kind;
    has_kind = kind-on p f g w means.has_kind;
    means =
        subst (λ inner. Means (own_sense (with_modules p g) n means.kind) inner its marks)
        (same-inner p f g w n means.kind 0 statement its same)
        (means-on p f g w n means.kind
        (inner_bindings (own_view (with_modules p f) n means.kind) 0 statement) means.means its
        same);
  }
