-- The entries of what a statement becomes are those of its names, in turn.
-- Occurrences that look alike: in a list and in it cleared, and where the first of a default value
-- stands in another field.
use Rattle.std.proofs.Common.{◌≡◌, ◌⊎◌, inl, inr, ℕ, suc, true, List, [], ◌∷◌, ◌++◌, Option, Some, length, map, refl, ap, sym, ◌∙◌, subst, arith, ◌+◌, None, option_map}
use Rattle.std.proofs.lemmas.Bool.{false≢true}
use Rattle.std.specs.List.{AllZip, cons_option}
use Rattle.bundle_syntax.specs.Item as h
use Rattle.bundle_syntax.specs.Item.{Item}
use Rattle.bundle_syntax.specs.declared.piece.Role.TheVariants as r
use Rattle.bundle_rules.specs.Places.{Occurrence, Around, Spot, in_field, outer_path, past, occurrence_of, occurrences_from, is_binding}
use Rattle.bundle_rules.specs.Idents.{Ident, ident_of}
use Rattle.bundle_rules.specs.Meaning.{Meant}
use Rattle.bundle_rules.specs.Scopes.{Es, Scope, Wrapper, Top, Inner, block_in, exports_default, kind_of_scope, scope_at, scopes_around}
use Rattle.bundle_rules.specs.Declarations.{Way, is_pattern, is_loop_head, way_of_variable, way_in, way_of}
use Rattle.bundle_rules.specs.Cleared.{cleared}
use Rattle.bundle_rules.specs.Statements.{moved_to}
use Rattle.bundle_rules.proofs.HeadLemmas.{of_head}
use Rattle.bundle_rules.proofs.PathLemmas.{cleared_path, cleared_spot, cleared_occurrence, past-cleared, occurrence_of-cleared}
use Rattle.bundle_tree_rebuild.specs.Work.{Step}
use Rattle.bundle_merge_theory.specs.noted.Marked.{Note}
use Rattle.bundle_merge_theory.specs.noted.Stated.{declares_default}
use Rattle.bundle_merge_theory.specs.walked.Keeps.{MeantIdent, ByStep, ByMeta, meant_ident, steps_in, notes_in, AreOfMeta}
use Rattle.bundle_merge_theory.specs.joined.Alike.{ScopesAlike, tops, wrappers, inners}
use Rattle.bundle_merge_theory.proofs.noted.Spots.{around_spot}
use Rattle.bundle_merge_theory.specs.own.Beside.{AllMade, done, made, added, IsFront, AreFront, no_front, one_front, Aligned, al_done, al_step, al_meta, NoStepLeads, PathsBeside}
use Rattle.bundle_merge_theory.proofs.own.Slots.{node-same}

-- ---- aligning
head_is : {A : Type 0} (x y : A) (xs ys : List A) → x ∷ xs ≡ y ∷ ys → x ≡ y
head_is {A = A} x y xs ys e = ap first e
  where
    first : List A → A
    first [] = x
    first (z ∷ zs) = z

tail_is : {A : Type 0} (x y : A) (xs ys : List A) → x ∷ xs ≡ y ∷ ys → xs ≡ ys
tail_is {A = A} x y xs ys e = ap rest e
  where
    rest : List A → List A
    rest [] = []
    rest (z ∷ zs) = zs

no_nil : {A : Type 0} (x : A) (xs : List A) → x ∷ xs ≡ [] → ⊥
no_nil x xs e = cc

pub align : (R : ℕ → ℕ → Type 0) (meta : Option Ident) (means : Option Meant)
    {os us : List Occurrence} {steps : List Step} → AllMade R meta os steps us →
    (entries : List MeantIdent) (notes : List Note) → steps ≡ steps_in entries →
    notes ≡ notes_in entries → map ident_of us ≡ map meant_ident entries →
    AreOfMeta meta means entries → NoStepLeads meta steps →
    Aligned R meta means os steps notes entries us
align R meta means done [] notes steps_are notes_are names of_meta none =
    subst (λ l. Aligned R meta means [] [] l [] []) (sym notes_are) al_done
align R meta means done (entry ∷ entries) notes steps_are notes_are names of_meta none =
    absurd (no_nil _ _ (sym names))
align R meta means (made it more) [] notes steps_are notes_are names of_meta none =
    absurd (no_nil _ _ names)
align R meta means (made {o = o} {u = u} {step = step} {os = os} {us = us} {steps = steps} it more) (ByStep s note ∷ entries) notes steps_are notes_are names of_meta none =
    let same : step ≡ s = head_is step s steps (steps_in entries) steps_are in
    let rest =
    align R meta means more entries (notes_in entries) (tail_is step s steps (steps_in entries) steps_are) refl
    (tail_is (ident_of u) s.ident (map ident_of us) (map meant_ident entries) names) of_meta none.1 in
    subst (λ z. Aligned R meta means (o ∷ os) (step ∷ steps) notes (ByStep z note ∷ entries) (u ∷ us)) same
    (subst (λ l. Aligned R meta means (o ∷ os) (step ∷ steps) l (ByStep step note ∷ entries) (u ∷ us)) (sym notes_are)
    (al_step it rest))
align R meta means (made {u = u} {step = step} {us = us} it more) (ByMeta ident meant ∷ entries) notes steps_are notes_are names of_meta none =
    absurd (none.0 (of_meta.0 ∙ ap Some (sym (head_is (ident_of u) ident (map ident_of us) (map meant_ident entries) names) ∙ it.ident)))
align R meta means (added refers is more) [] notes steps_are notes_are names of_meta none =
    absurd (no_nil _ _ names)
align R meta means (added {u = u} {us = us} {steps = steps} refers is more) (ByStep s note ∷ entries) notes steps_are notes_are names of_meta none =
    absurd ((subst (NoStepLeads meta) steps_are none).0
    (is ∙ ap Some (head_is (ident_of u) s.ident (map ident_of us) (map meant_ident entries) names)))
align R meta means (added {u = u} {us = us} refers is more) (ByMeta ident meant ∷ entries) notes steps_are notes_are names of_meta none =
    al_meta refers (sym (head_is (ident_of u) ident (map ident_of us) (map meant_ident entries) names)) of_meta.0 of_meta.1
    (align R meta means more entries notes steps_are notes_are
    (tail_is (ident_of u) ident (map ident_of us) (map meant_ident entries) names) of_meta.2 none)

-- COUNT: as many names have steps on both sides
count : (R : ℕ → ℕ → Type 0) (meta : Option Ident) (means : Option Meant)
    {os us : List Occurrence} {steps : List Step} → AllMade R meta os steps us → NoStepLeads meta steps →
    (entries : List MeantIdent) → map ident_of us ≡ map meant_ident entries →
    AreOfMeta meta means entries → NoStepLeads meta (steps_in entries) →
    length (steps_in entries) ≡ length steps
count R meta means done none [] names of_meta its = refl
count R meta means done none (entry ∷ entries) names of_meta its = absurd (no_nil _ _ (sym names))
count R meta means (made it more) none [] names of_meta its = absurd (no_nil _ _ names)
count R meta means (made {u = u} {us = us} it more) none (ByStep s note ∷ entries) names of_meta its =
    ap suc (count R meta means more none.1 entries (tail_is (ident_of u) s.ident (map ident_of us) (map meant_ident entries) names) of_meta its.1)
count R meta means (made {u = u} {us = us} it more) none (ByMeta ident meant ∷ entries) names of_meta its =
    absurd (none.0 (of_meta.0 ∙ ap Some (sym (head_is (ident_of u) ident (map ident_of us) (map meant_ident entries) names) ∙ it.ident)))
count R meta means (added refers is more) none [] names of_meta its = absurd (no_nil _ _ names)
count R meta means (added {u = u} {us = us} refers is more) none (ByStep s note ∷ entries) names of_meta its =
    absurd (its.0 (is ∙ ap Some (head_is (ident_of u) s.ident (map ident_of us) (map meant_ident entries) names)))
count R meta means (added {u = u} {us = us} refers is more) none (ByMeta ident meant ∷ entries) names of_meta its =
    count R meta means more none entries (tail_is (ident_of u) ident (map ident_of us) (map meant_ident entries) names) of_meta.2 its

-- what stands in front, in both
pub record FrontAligned (R : ℕ → ℕ → Type 0) (meta : Option Ident) (means : Option Meant)
    (default : Ident) (its_meaning : Meant) (os : List Occurrence) (steps : List Step)
    (notes : List Note) (front rest : List Occurrence) (its_front : List (Ident × Meant))
    (entries : List MeantIdent) : Type 0 where
  pub aligned : Aligned R meta means os steps notes entries rest
  pub both : ((front ≡ []) × (its_front ≡ []))
      ⊎ ((u : Occurrence) × (front ≡ u ∷ []) × IsFront default u × (its_front ≡ (default, its_meaning) ∷ []))

pub align-all : (R : ℕ → ℕ → Type 0) (meta : Option Ident) (means : Option Meant)
    (default : Ident) (its_meaning : Meant) (given : List Item) {os front rest : List Occurrence}
    {steps : List Step} → AreFront default given front → AllMade R meta os steps rest →
    (its_front : List (Ident × Meant)) →
    (its_front ≡ []) ⊎ ((its_front ≡ (default, its_meaning) ∷ []) × (declares_default given ≡ true)) →
    (entries : List MeantIdent) (notes : List Note) → steps ≡ steps_in entries →
    notes ≡ notes_in entries →
    map ident_of (front ++ rest) ≡ map (λ pair. pair.0) its_front ++ map meant_ident entries →
    AreOfMeta meta means entries → NoStepLeads meta steps → (meta ≡ Some default → ⊥) →
    FrontAligned R meta means default its_meaning os steps notes front rest its_front entries
align-all R meta means default its_meaning given (no_front none) all its_front (inl empty) entries notes steps_are notes_are names of_meta apart other =
    record {
      aligned = align R meta means all entries notes steps_are notes_are (names ∙ ap (λ l. map (λ pair. pair.0) l ++ map meant_ident entries) empty) of_meta apart;
      both = inl (refl, empty);
    }
align-all R meta means default its_meaning given (no_front none) all its_front (inr one) entries notes steps_are notes_are names of_meta apart other =
    absurd (false≢true (sym none ∙ one.1))
align-all R meta means default its_meaning given {rest = rest} (one_front {u = u} has it) all its_front (inr one) entries notes steps_are notes_are names of_meta apart other =
    record {
      aligned =
          align R meta means all entries notes steps_are notes_are
          (tail_is (ident_of u) default (map ident_of rest) (map meant_ident entries) (names ∙ ap (λ l. map (λ pair. pair.0) l ++ map meant_ident entries) one.0)) of_meta apart;
      both = inr (u, refl, it, one.0);
    }
align-all R meta means default its_meaning given {rest = rest} {steps = steps} (one_front {u = u} has it) all its_front (inl empty) entries notes steps_are notes_are names of_meta apart other =
    absurd (by entries steps_are (names ∙ ap (λ l. map (λ pair. pair.0) l ++ map meant_ident entries) empty) of_meta)
  where
    by : (entries : List MeantIdent) → steps ≡ steps_in entries →
        ident_of u ∷ map ident_of rest ≡ map meant_ident entries → AreOfMeta meta means entries → ⊥
    by [] steps_are names of_meta = no_nil _ _ names
    by (ByMeta ident meant ∷ entries) steps_are names of_meta =
        other (of_meta.0 ∙ ap Some (sym (head_is (ident_of u) ident (map ident_of rest) (map meant_ident entries) names) ∙ it.ident))
    by (ByStep s note ∷ entries) steps_are names of_meta =
        let same = count R meta means all apart entries (tail_is (ident_of u) s.ident (map ident_of rest) (map meant_ident entries) names) of_meta (subst (NoStepLeads meta) steps_are apart).1 in
        let long : length steps ≡ suc (length (steps_in entries)) = ap (λ (l : List Step). length l) steps_are in
        omega (arith, same, long)

-- ---- like

-- the same place
abbrev pub Same : ℕ → ℕ → Type 0
Same a b = a ≡ b

-- an occurrence looks as another
pub record LooksLike (o p : Occurrence) : Type 0 where
  pub role : p.role ≡ o.role
  pub way : (w : Way) → way_of o.path ≡ Some w → way_of p.path ≡ Some w
  pub scopes : AllZip (ScopesAlike Same) (scopes_around Es o.path) (scopes_around Es p.path)

scopes-through : (R : ℕ → ℕ → Type 0) (ss ts us : List Scope) →
    AllZip (ScopesAlike Same) ss ts → AllZip (ScopesAlike R) ts us → AllZip (ScopesAlike R) ss us
scopes-through R [] [] us one two = two
scopes-through R [] (t ∷ ts) us one two = absurd one
scopes-through R (s ∷ ss) [] us one two = absurd one
scopes-through R (s ∷ ss) (t ∷ ts) [] one two = absurd two
scopes-through R (s ∷ ss) (t ∷ ts) (u ∷ us) one two =
    (by one.0 two.0, scopes-through R ss ts us one.1 two.1)
  where
    by : {s t u : Scope} → ScopesAlike Same s t → ScopesAlike R t u → ScopesAlike R s u
    by tops x = x
    by wrappers x = x
    by (inners same) (inners {kind = kind} {b = b} x) =
        inners (subst (λ n. R n b) (sym same) x)

-- what is made of one is made of the other
pub made-like : (R : ℕ → ℕ → Type 0) (meta : Option Ident) {os ps us : List Occurrence}
    {steps : List Step} → AllMade R meta ps steps us → AllZip LooksLike os ps →
    AllMade R meta os steps us
made-like R meta {os = []} done like = done
made-like R meta {os = o ∷ os} done like = absurd like
made-like R meta {os = []} (made it more) like = absurd like
made-like R meta {os = o ∷ os} (made {o = p} {u = u} it more) like =
    made (record {
      ident = it.ident;
      role = it.role ∙ like.0.role;
      way = λ w binds there. it.way w (ap is_binding like.0.role ∙ binds) (like.0.way w there);
      scopes =
          scopes-through R (scopes_around Es o.path) (scopes_around Es p.path)
          (scopes_around Es u.path) like.0.scopes it.scopes;
    }) (made-like R meta more like.1)
made-like R meta (added refers is more) like = added refers is (made-like R meta more like)

-- Cleared.

cleared-beside : (path : List Around) → PathsBeside Same (cleared_path path) path
cleared-beside [] = record {
  block = refl;
  default = refl;
  loop = refl;
  declarator = refl;
  way = λ w there. there;
  scopes = (tops, tt);
}
cleared-beside (node ∷ outer) =
    let rest = cleared-beside outer in
    let it =
    node-same Same (cleared_path outer) outer rest node.head node.begins node.begins node.field refl
    in
    record {
      block = sym (of_head block_in (λ meta. (refl, refl, refl, λ kind. refl)) node.head);
      default =
          sym (of_head exports_default (λ meta. (refl, refl, refl, λ kind. refl)) node.head);
      loop =
          sym
          (of_head (λ it. is_loop_head it node.field) (λ meta. (refl, refl, refl, λ kind. refl))
          node.head);
      declarator =
          it.declarator
          ∙ sym
          (of_head (λ it. way_of_variable it (cleared_path outer))
          (λ meta. (refl, refl, refl, λ kind. refl)) node.head);
      way =
          λ w there.
          it.way w
          ((λ i. Rattle.std.proofs.Common.cond
          (sym (of_head is_pattern (λ meta. (refl, refl, refl, λ kind. refl)) node.head) i)
          (way_of (cleared_path outer))
          (sym (of_head (λ it. way_in it (cleared_path outer))
          (λ meta. (refl, refl, refl, λ kind. refl)) node.head) i))
          ∙ there);
      scopes =
          subst
          (λ kind. AllZip (ScopesAlike Same)
          (scope_at node.begins kind ++ scopes_around Es (cleared_path outer))
          (scopes_around Es (node ∷ outer)))
          (sym
          (of_head (λ it. kind_of_scope it node.field (cleared_path outer))
          (λ meta. (refl, refl, refl, λ kind. refl)) node.head))
          it.scopes;
    }

cons_option-map : (o : Option Occurrence) (more : List Occurrence) →
    cons_option (option_map cleared_occurrence o) (map cleared_occurrence more)
    ≡ map cleared_occurrence (cons_option o more)
cons_option-map None more = refl
cons_option-map (Some o) more = refl

-- the occurrences of a cleared list, from a spot on
pub occurrences_from-cleared : (spot : Spot) (items : List Item) →
    occurrences_from (cleared_spot spot) (cleared items)
    ≡ map cleared_occurrence (occurrences_from spot items)
occurrences_from-cleared spot [] = refl
occurrences_from-cleared spot (x ∷ items) =
    (λ i. cons_option (occurrence_of-cleared spot x i)
    (occurrences_from (past-cleared spot x i) (cleared items)))
    ∙ (λ i. cons_option (option_map cleared_occurrence (occurrence_of spot x))
    (occurrences_from-cleared (past spot x) items i))
    ∙ cons_option-map (occurrence_of spot x) (occurrences_from (past spot x) items)

all-cleared : (os : List Occurrence) → AllZip LooksLike (map cleared_occurrence os) os
all-cleared [] = tt
all-cleared (o ∷ os) =
    let it = cleared-beside o.path in
    (record { role = refl; way = it.way; scopes = it.scopes }, all-cleared os)

pub cleared-like : (spot : Spot) (items : List Item) →
    AllZip LooksLike (occurrences_from (cleared_spot spot) (cleared items))
    (occurrences_from spot items)
cleared-like spot items =
    subst (λ os. AllZip LooksLike os (occurrences_from spot items))
    (sym (occurrences_from-cleared spot items)) (all-cleared (occurrences_from spot items))

-- In another field of a default export.

data LooksPath : List Around → List Around → Type 0 where
  same_path : {path : List Around} → LooksPath path path
  other_field : {begins f g : ℕ} {outer : List Around} →
      LooksPath (around_spot h.ExportDefaultExpr begins f ∷ outer)
      (around_spot h.ExportDefaultExpr begins g ∷ outer)
  deeper : {node : Around} {path other : List Around} → LooksPath path other →
      LooksPath (node ∷ path) (node ∷ other)

looks-field : (field : ℕ) {path other : List Around} → LooksPath path other →
    LooksPath (in_field field path) (in_field field other)
looks-field field same_path = same_path
looks-field field other_field = same_path
looks-field field (deeper it) = deeper it

looks-outer : {path other : List Around} → LooksPath path other →
    LooksPath (outer_path path) (outer_path other)
looks-outer same_path = same_path
looks-outer other_field = same_path
looks-outer (deeper it) = it

all-same : (ss : List Scope) → AllZip (ScopesAlike Same) ss ss
all-same [] = tt
all-same (Top ∷ ss) = (tops, all-same ss)
all-same (Wrapper ∷ ss) = (wrappers, all-same ss)
all-same (Inner kind begins ∷ ss) = (inners refl, all-same ss)

looks-beside : {path other : List Around} → LooksPath path other → PathsBeside Same path other
looks-beside (same_path {path = path}) = record {
  block = refl;
  default = refl;
  loop = refl;
  declarator = refl;
  way = λ w there. there;
  scopes = all-same (scopes_around Es path);
}
looks-beside (other_field {outer = outer}) = record {
  block = refl;
  default = refl;
  loop = refl;
  declarator = refl;
  way = λ w there. there;
  scopes = all-same (scopes_around Es outer);
}
looks-beside (deeper {node = node} {path = path} {other = other} it) =
    node-same Same path other (looks-beside it) node.head node.begins node.begins node.field refl

occurrences-look : (place : ℕ) (path other : List Around) (items : List Item) →
    LooksPath path other →
    AllZip LooksLike (occurrences_from (record { place = place; path = path }) items)
    (occurrences_from (record { place = place; path = other }) items)
occurrences-look place path other [] like = tt
occurrences-look place path other (h.Open field head ∷ items) like =
    occurrences-look (place + 1) (around_spot head place 0 ∷ in_field field path)
    (around_spot head place 0 ∷ in_field field other) items (deeper (looks-field field like))
occurrences-look place path other (h.Hole field ∷ items) like =
    occurrences-look (place + 1) path other items like
occurrences-look place path other (h.Close ∷ items) like =
    occurrences-look (place + 1) (outer_path path) (outer_path other) items (looks-outer like)
occurrences-look place path other (h.Ident field x ctxt r.Word ∷ items) like =
    occurrences-look (place + 1) path other items like
occurrences-look place path other (h.Ident field x ctxt r.Binding ∷ items) like =
    let it = looks-beside (looks-field field like) in (
      record { role = refl; way = it.way; scopes = it.scopes },
      occurrences-look (place + 1) path other items like,
    )
occurrences-look place path other (h.Ident field x ctxt r.Reference ∷ items) like =
    let it = looks-beside (looks-field field like) in (
      record { role = refl; way = it.way; scopes = it.scopes },
      occurrences-look (place + 1) path other items like,
    )

-- the first of a default value in another field
pub moved-like : (place begins f its : ℕ) (outer : List Around) (first : Item) (more : List Item) →
    AllZip LooksLike
    (occurrences_from (record { place = place; path = around_spot h.ExportDefaultExpr begins f ∷ outer })
    (first ∷ more))
    (occurrences_from (record { place = place; path = around_spot h.ExportDefaultExpr begins f ∷ outer })
    (moved_to its first ∷ more))
moved-like place begins f its outer (h.Open field head) more =
    occurrences-look (place + 1)
    (around_spot head place 0 ∷ around_spot h.ExportDefaultExpr begins field ∷ outer)
    (around_spot head place 0 ∷ around_spot h.ExportDefaultExpr begins its ∷ outer) more
    (deeper other_field)
moved-like place begins f its outer (h.Hole field) more =
    occurrences-look (place + 1) (around_spot h.ExportDefaultExpr begins f ∷ outer)
    (around_spot h.ExportDefaultExpr begins f ∷ outer) more same_path
moved-like place begins f its outer h.Close more =
    occurrences-look (place + 1) outer outer more same_path
moved-like place begins f its outer (h.Ident field x ctxt r.Word) more =
    occurrences-look (place + 1) (around_spot h.ExportDefaultExpr begins f ∷ outer)
    (around_spot h.ExportDefaultExpr begins f ∷ outer) more same_path
moved-like place begins f its outer (h.Ident field x ctxt r.Binding) more = (
  record { role = refl; way = λ w there. there; scopes = all-same (scopes_around Es outer) },
  occurrences-look (place + 1) (around_spot h.ExportDefaultExpr begins f ∷ outer)
      (around_spot h.ExportDefaultExpr begins f ∷ outer) more same_path,
)
moved-like place begins f its outer (h.Ident field x ctxt r.Reference) more = (
  record { role = refl; way = λ w there. there; scopes = all-same (scopes_around Es outer) },
  occurrences-look (place + 1) (around_spot h.ExportDefaultExpr begins f ∷ outer)
      (around_spot h.ExportDefaultExpr begins f ∷ outer) more same_path,
)
