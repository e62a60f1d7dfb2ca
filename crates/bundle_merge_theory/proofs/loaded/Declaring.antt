-- What the item of a load function declares by itself, and what the module declares.
use Rattle.std.proofs.Common.{◌≡◌, ℕ, zero, Bool, true, false, cond, List, [], ◌∷◌, ◌++◌, Option, Some, None, option_map, option_and_then, map, fold, refl, ap, ap₂, sym, ◌∙◌, subst}
use Rattle.std.specs.List.{cons_option}
use Rattle.std.proofs.lemmas.Bool.{false≢true}
use Rattle.bundle_syntax.specs.Item as h
use Rattle.bundle_syntax.specs.Item.{Item, Head}
use Rattle.bundle_rules.specs.Places.{Spot, past, Occurrence, occurrence_of, occurrences_from, is_binding}
use Rattle.bundle_rules.specs.Scopes.{ModuleKind, Es, Cjs, scopes_around}
use Rattle.bundle_rules.specs.Declarations.{Reading, BySymbol, ByContext, Way, name_of, Declared, declared_by, declaration_of, is_nameless_default, nameless_default, declared_from, way_of}
use Rattle.bundle_rules.specs.Idents.{Ident}
use Rattle.bundle_scope_names.proofs.Numbering.{Numbering, lifted}
use Rattle.bundle_scope_names.proofs.HomesLemmas.{Each, each-rest, IsBySymbol}
use Rattle.bundle_scope_names.proofs.FoundLemmas.{plain, with}
use Rattle.bundle_rules.specs.Callable.{is_module_head}
use Rattle.bundle_merge_theory.specs.loaded.Framed.{IsFrame, DeclaredBeside, of_body, AllBeside, none, more}
use Rattle.bundle_merge_theory.specs.loaded.Kept.{moved_numbering, StandsBeside, IsDeclarationTaken, KeepsName}
use Rattle.bundle_merge_theory.specs.loaded.Turned.{Turned, over, begun, declares, ended, named, word, empty, called, skipped, FollowsTurned, done, kept, changed}
use Rattle.bundle_merge_theory.specs.loaded.Item.{declared_by_names}
use Rattle.bundle_merge_theory.proofs.loaded.Beside.{there_declared, here_declared, declares-own}

-- no node is one of a module
abbrev pub AreOwn : List Item → Type 0
AreOwn [] = Unit {0}
AreOwn (h.Open field head ∷ rest) = (is_module_head head ≡ false) × AreOwn rest
AreOwn (h.Ident field x ctxt role ∷ rest) = AreOwn rest
AreOwn (h.Hole field ∷ rest) = AreOwn rest
AreOwn (h.Close ∷ rest) = AreOwn rest

pub own-before : {L : Ident → Type 0} {depth : ℕ} {xs ys : List Item} → Turned L depth xs ys →
    AreOwn xs
own-before over = tt
own-before (begun own rest) = (own, own-before rest)
own-before (declares rest) = (refl, own-before rest)
own-before (ended rest) = own-before rest
own-before (named is rest) = own-before rest
own-before (word rest) = own-before rest
own-before (empty rest) = own-before rest
own-before (called load rest) = (refl, (refl, (refl, own-before rest)))
own-before (skipped rest) = (refl, own-before rest)

pub own-after : {L : Ident → Type 0} {depth : ℕ} {xs ys : List Item} → Turned L depth xs ys →
    AreOwn ys
own-after over = tt
own-after (begun own rest) = (own, own-after rest)
own-after (declares rest) = (refl, own-after rest)
own-after (ended rest) = own-after rest
own-after (named is rest) = own-after rest
own-after (word rest) = own-after rest
own-after (empty rest) = own-after rest
own-after (called load rest) = (refl, own-after rest)
own-after (skipped rest) = own-after rest

pub not-default : (head : Head) (field : ℕ) (rest : List Item) → is_module_head head ≡ false →
    is_nameless_default (h.Open field head) rest ≡ false
not-default h.ExportDefaultDecl field rest own = absurd (false≢true (sym own))
not-default h.ExportDefaultExpr field rest own = absurd (false≢true (sym own))
not-default _ field rest own = refl

module _ (reading : Reading) (kind : ModuleKind) where
  cons-append : (d : Option Declared) (xs ys : List Declared) →
      cons_option d (xs ++ ys) ≡ cons_option d xs ++ ys
  cons-append None xs ys = refl
  cons-append (Some d) xs ys = refl

  joins : (o : Option Occurrence) (os : List Occurrence) (ds : List Declared) →
      cons_option (option_and_then (declaration_of reading kind) o)
      (declared_by_names reading kind os ++ ds)
      ≡ declared_by_names reading kind (cons_option o os) ++ ds
  joins None os ds = refl
  joins (Some o) os ds =
      cons-append (declaration_of reading kind o) (declared_by_names reading kind os) ds

  one-more : (s : Spot) (x : Item) (xs tail : List Item) →
      is_nameless_default x (xs ++ tail) ≡ false →
      declared_from reading kind (past s x) (xs ++ tail)
      ≡ declared_by_names reading kind (occurrences_from (past s x) xs)
      ++ declared_from reading kind (fold past (past s x) xs) tail →
      declared_from reading kind s ((x ∷ xs) ++ tail)
      ≡ declared_by_names reading kind (occurrences_from s (x ∷ xs))
      ++ declared_from reading kind (fold past s (x ∷ xs)) tail
  one-more s x xs tail no_default ih =
      ap (λ b. cons_option
      (cond b (Some (nameless_default kind s.place))
      (option_and_then (declaration_of reading kind) (occurrence_of s x)))
      (declared_from reading kind (past s x) (xs ++ tail))) no_default
      ∙ (ap (cons_option (option_and_then (declaration_of reading kind) (occurrence_of s x))) ih
      ∙ joins (occurrence_of s x) (occurrences_from (past s x) xs)
      (declared_from reading kind (fold past (past s x) xs) tail))

  pub declared-own : (s : Spot) (xs tail : List Item) → AreOwn xs →
      declared_from reading kind s (xs ++ tail)
      ≡ declared_by_names reading kind (occurrences_from s xs)
      ++ declared_from reading kind (fold past s xs) tail
  declared-own s [] tail own = refl
  declared-own s (h.Open field head ∷ xs) tail own =
      one-more s (h.Open field head) xs tail (not-default head field (xs ++ tail) own.0)
      (declared-own (past s (h.Open field head)) xs tail own.1)
  declared-own s (h.Ident field x ctxt role ∷ xs) tail own =
      one-more s (h.Ident field x ctxt role) xs tail refl
      (declared-own (past s (h.Ident field x ctxt role)) xs tail own)
  declared-own s (h.Hole field ∷ xs) tail own =
      one-more s (h.Hole field) xs tail refl (declared-own (past s (h.Hole field)) xs tail own)
  declared-own s (h.Close ∷ xs) tail own =
      one-more s h.Close xs tail refl (declared-own (past s h.Close) xs tail own)

-- What is declared on both sides.

data PairBeside (R : ℕ → ℕ → Type 0) : Option Declared → Option Declared → Type 0 where
  no_pair : PairBeside R None None
  pair : {d e : Declared} → DeclaredBeside R d e → PairBeside R (Some d) (Some e)

put-pair : {R : ℕ → ℕ → Type 0} {p q : Option Declared} {ds es : List Declared} →
    PairBeside R p q → AllBeside R ds es → AllBeside R (cons_option p ds) (cons_option q es)
put-pair no_pair all = all
put-pair (pair one) all = more one all

-- each occurrence that declares is taken
abbrev pub AreTaken : List Occurrence → Type 0
AreTaken os =
    Each (λ (o : Occurrence). (d : Declared) → declaration_of BySymbol Cjs o ≡ Some d → IsDeclarationTaken d)
    os

module _ (R : ℕ → ℕ → Type 0) (g : Numbering) (ds : List Declared) where
  pair-kept : (o u : Occurrence) → StandsBeside R o u → u.sym ≡ o.sym →
      ((d : Declared) → declaration_of BySymbol Cjs o ≡ Some d → IsDeclarationTaken d) →
      PairBeside R (declaration_of BySymbol Cjs o) (declaration_of BySymbol Es u)
  pair-kept o u stands symbol taken = go (is_binding o.role) refl (way_of o.path) refl
    where
      to : {p q : Option Declared} → declaration_of BySymbol Cjs o ≡ p →
          declaration_of BySymbol Es u ≡ q → PairBeside R p q →
          PairBeside R (declaration_of BySymbol Cjs o) (declaration_of BySymbol Es u)
      to there here it =
          subst (λ p. PairBeside R p (declaration_of BySymbol Es u)) (sym there)
          (subst (PairBeside R _) (sym here) it)

      none_by : (b : Bool) → ◌≡◌ {A = Option Declared} (cond b None None) None
      none_by true = refl
      none_by false = refl

      go : (b : Bool) → is_binding o.role ≡ b → (w : Option Way) → way_of o.path ≡ w →
          PairBeside R (declaration_of BySymbol Cjs o) (declaration_of BySymbol Es u)
      go true role (Some way) is =
          let there : declaration_of BySymbol Cjs o ≡ Some (there_declared o way) =
          ap (λ b. cond b (declared_by o.place (plain o.sym) (scopes_around Cjs o.path)
          (way_of o.path)) None) role
          ∙ ap (declared_by o.place (plain o.sym) (scopes_around Cjs o.path)) is in
          let here : declaration_of BySymbol Es u ≡ Some (here_declared u o.sym way) =
          ap (λ b. cond b (declared_by u.place (plain u.sym) (scopes_around Es u.path)
          (way_of u.path)) None) (ap is_binding stands.role ∙ role)
          ∙ (ap (declared_by u.place (plain u.sym) (scopes_around Es u.path)) (stands.way ∙ is)
          ∙ ap (λ x. Some (here_declared u x way)) symbol) in
          to there here (pair
          (of_body (record {
            name = refl;
            by = refl;
            scopes = stands.scopes;
            own = stands.own way is;
            taken = taken (there_declared o way) there;
          })))
      go true role None is =
          to (ap (λ w. cond (is_binding o.role)
          (declared_by o.place (plain o.sym) (scopes_around Cjs o.path) w) None) is
          ∙ none_by (is_binding o.role))
          (ap (λ w. cond (is_binding u.role)
          (declared_by u.place (plain u.sym) (scopes_around Es u.path) w) None) (stands.way
          ∙ is) ∙ none_by (is_binding u.role)) no_pair
      go false role w is =
          to (ap (λ b. cond b
          (declared_by o.place (plain o.sym) (scopes_around Cjs o.path) (way_of o.path)) None)
          role) (ap (λ b. cond b
          (declared_by u.place (plain u.sym) (scopes_around Es u.path) (way_of u.path)) None)
          (ap is_binding stands.role ∙ role)) no_pair

  no-declaration : (reading : Reading) (kind : ModuleKind) (o : Occurrence) →
      is_binding o.role ≡ false → declaration_of reading kind o ≡ None
  no-declaration reading kind o role =
      ap (λ b. cond b (declared_by o.place (name_of reading o.sym o.ctxt)
      (scopes_around kind o.path) (way_of o.path)) None) role

  pub declared-follow : {L : Ident → Type 0} {os us : List Occurrence} → FollowsTurned L R g ds os us →
      AreTaken os →
      AllBeside R (declared_by_names BySymbol Cjs os) (declared_by_names BySymbol Es us)
  declared-follow done taken = none
  declared-follow (kept {o = o} {u = u} {os = os} stands keeps rest) taken =
      put-pair (pair-kept o u stands keeps.symbol (taken zero o refl))
      (declared-follow rest
      (each-rest (λ (o : Occurrence). (d : Declared) → declaration_of BySymbol Cjs o ≡ Some d →
      IsDeclarationTaken d) o os taken))
  declared-follow (changed {o = o} {u = u} {os = os} {us = us} stands refers is rest) taken =
      subst (λ p. AllBeside R (cons_option p (declared_by_names BySymbol Cjs os))
      (declared_by_names BySymbol Es (u ∷ us))) (sym (no-declaration BySymbol Cjs o refers))
      (subst (λ q. AllBeside R (declared_by_names BySymbol Cjs os)
      (cons_option q (declared_by_names BySymbol Es us)))
      (sym (no-declaration BySymbol Es u (ap is_binding stands.role ∙ refers)))
      (declared-follow rest
      (each-rest (λ (o : Occurrence). (d : Declared) → declaration_of BySymbol Cjs o ≡ Some d →
      IsDeclarationTaken d) o os taken)))

module _ (R : ℕ → ℕ → Type 0) (frame : IsFrame R) (g : Numbering) {ds es : List Declared}
    (all : AllBeside R ds es) (plainly : Each IsBySymbol es) where
  lift-kept : (o u : Occurrence) → StandsBeside R o u → KeepsName g ds o u →
      ((d : Declared) → declaration_of BySymbol Cjs o ≡ Some d → IsDeclarationTaken d) →
      declaration_of ByContext Es u
      ≡ option_map (lifted (moved_numbering frame.from g) es) (declaration_of BySymbol Es u)
  lift-kept o u stands keeps taken = go (is_binding o.role) refl (way_of o.path) refl
    where
      none_by : (b : Bool) → ◌≡◌ {A = Option Declared} (cond b None None) None
      none_by true = refl
      none_by false = refl

      go : (b : Bool) → is_binding o.role ≡ b → (w : Option Way) → way_of o.path ≡ w →
          declaration_of ByContext Es u
          ≡ option_map (lifted (moved_numbering frame.from g) es)
          (declaration_of BySymbol Es u)
      go true role (Some way) is =
          let mine = declares-own R frame g all plainly o u stands keeps taken way role is in
          mine.declares_here
          ∙ (ap Some mine.lifts
          ∙ sym (ap (option_map (lifted (moved_numbering frame.from g) es))
          mine.declares_plainly))
      go true role None is =
          ap (λ w. cond (is_binding u.role)
          (declared_by u.place (with u.sym u.ctxt) (scopes_around Es u.path) w) None)
          (stands.way ∙ is)
          ∙ (none_by (is_binding u.role)
          ∙ sym (ap (option_map (lifted (moved_numbering frame.from g) es))
          (ap (λ w. cond (is_binding u.role)
          (declared_by u.place (plain u.sym) (scopes_around Es u.path) w) None) (stands.way
          ∙ is) ∙ none_by (is_binding u.role))))
      go false role w is =
          let refers : is_binding u.role ≡ false = ap is_binding stands.role ∙ role in
          no-declaration R g ds ByContext Es u refers
          ∙ sym (ap (option_map (lifted (moved_numbering frame.from g) es))
          (no-declaration R g ds BySymbol Es u refers))

  put-lift : (lift : Declared → Declared) {p : Option Declared} (q : Option Declared)
      {xs : List Declared} (ys : List Declared) →
      p ≡ option_map lift q → xs ≡ map lift ys → cons_option p xs ≡ map lift (cons_option q ys)
  put-lift lift {p = p} q {xs = xs} ys first rest = ap₂ cons_option first rest ∙ by q
    where
      by : (q : Option Declared) →
          cons_option (option_map lift q) (map lift ys) ≡ map lift (cons_option q ys)
      by None = refl
      by (Some d) = refl

  pub lifts-follow : {L : Ident → Type 0} {os us : List Occurrence} → FollowsTurned L R g ds os us →
      AreTaken os →
      declared_by_names ByContext Es us
      ≡ map (lifted (moved_numbering frame.from g) es) (declared_by_names BySymbol Es us)
  lifts-follow done taken = refl
  lifts-follow (kept {o = o} {u = u} {os = os} {us = us} stands keeps rest) taken =
      put-lift (lifted (moved_numbering frame.from g) es) (declaration_of BySymbol Es u)
      (declared_by_names BySymbol Es us) (lift-kept o u stands keeps (taken zero o refl))
      (lifts-follow rest
      (each-rest (λ (o : Occurrence). (d : Declared) → declaration_of BySymbol Cjs o ≡ Some d →
      IsDeclarationTaken d) o os taken))
  lifts-follow (changed {o = o} {u = u} {os = os} {us = us} stands refers is rest) taken =
      let its : is_binding u.role ≡ false = ap is_binding stands.role ∙ refers in
      put-lift (lifted (moved_numbering frame.from g) es) (declaration_of BySymbol Es u)
      (declared_by_names BySymbol Es us) (no-declaration R g ds ByContext Es u its
      ∙ sym (ap (option_map (lifted (moved_numbering frame.from g) es))
      (no-declaration R g ds BySymbol Es u its)))
      (lifts-follow rest
      (each-rest (λ (o : Occurrence). (d : Declared) → declaration_of BySymbol Cjs o ≡ Some d →
      IsDeclarationTaken d) o os taken))
