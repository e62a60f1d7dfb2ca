-- What the hook answers for a module is judged as it was given: clearing changes nothing of it.
-- What the hook is asked for the modules that an entry reaches.
use Rattle.std.proofs.Common.{◌≡◌, ℕ, Bool, true, false, List, [], ◌∷◌, ◌++◌, Option, Some, None, codes, map, option_map, refl, sym, ap, ◌∙◌, subst, ◌+◌, ◌-◌, ◌<◌, ◌≤◌, ◌==◌, inl, inr, zero, suc, IsTrue, Contains, length, arith}
use Rattle.std.specs.Prelude.{IfSome, IfNone, slice_get}
use Rattle.std.specs.List.{flat_map}
use Rattle.std.proofs.lemmas.List.{map-append}
use Rattle.std.proofs.lemmas.Option.{none-some, same_Some}
use Rattle.std.specs.Option.{option_and_then}
use Rattle.std.proofs.lemmas.Bool.{eqb-false, eqb-true, eq-eqb, false≢true}
use Rattle.std.proofs.lemmas.List.Elements.{Contains-append_cases, Contains-append_left, Contains-append_right}
use Rattle.bundle_tree_names.specs.FileName.{Name, name_of}
use Rattle.bundle_tree_names.specs.declared.file_name.FileName.{FileName}
use Rattle.bundle_syntax.specs.declared.piece.Piece.{Piece}
use Rattle.bundle_syntax.specs.Item as h
use Rattle.bundle_syntax.specs.Item.{Item, Head, item_of}
use Rattle.bundle_order_graph.specs.Walks.{itself}
use Rattle.bundle_syntax.specs.declared.piece.Piece.TheVariants
use Rattle.bundle_rules.specs.Declarations.{Declared}
use Rattle.bundle_rules.specs.Doubled.{first_doubled}
use Rattle.bundle_rules.specs.Scopes.{Es}
use Rattle.bundle_rules.specs.Bound.{has_free}
use Rattle.bundle_rules.specs.Bundle.{is_with, properties_tree}
use Rattle.bundle_rules.specs.Cleared.{cleared}
use Rattle.bundle_rules.specs.Faults
use Rattle.bundle_rules.specs.Faults.{Fault, HookFails, DoubledDeclaration, WithStatement, ArgumentsUnderIife, PropertiesFault}
use Rattle.bundle_rules.specs.Nodes.{Text, has_head}
use Rattle.bundle_rules.proofs.HeadLemmas.{of_head}
use Rattle.bundle_rules.proofs.NodeLemmas.{has_head-cleared}
use Rattle.bundle_rules.proofs.DenotesLemmas.{first_doubled-cleared}
use Rattle.bundle_rules.proofs.CallLemmas.{has_free-cleared}
use Rattle.bundle_tree_ast.specs.declared.expr.Expr.{Expr}
use Rattle.bundle_tree_ast.specs.declared.prop.KeyValueProp.{KeyValueProp}
use Rattle.bundle_rules.specs.Entries.{has_import_meta}
use Rattle.bundle_rules.specs.Program.{Program, file_of, tree_of}
use Rattle.bundle_scope_denote.specs.declared.table.Doubled.{Doubled}
use Rattle.bundle_scope_denote.specs.Listed.{place_and_symbol, doubled_told}
use Rattle.bundle_tree_listed.specs.Tree.{key_value_prop_items}
use Rattle.bundle_link_index.proofs.ProgramLemmas.{got}
use Rattle.bundle_link.proofs.ClearedNodes.{cleared-append}
use Rattle.bundle_link.proofs.NumbersLemmas.{there_is}
use Rattle.bundle_link.specs.declared.reached.Reached.{Reached}
use Rattle.bundle_link.specs.Programs.{is_one_call}
use Rattle.bundler_entry.specs.Hook
use Rattle.bundler_entry.specs.Hook.{IsAskedFault, IsRightAnswer, IsFaultOfAnswer}
use Rattle.bundler_entry.proofs.LinkedLemmas.{file_at, long_places, place_of, source_of}
use Rattle.bundler_entry.specs.Asked.{AreAnsweredBefore, AreAnswersBefore, IsHookAnswer, IsAnsweredFor, IsAskedModule, IsRefusedAt, IsRefusedFor}
use Rattle.bundler_entry.specs.Linked.{IsCallOf, IsReachedIn}
use Rattle.bundler_entry.specs.Source.{IsSourceOf}
use Rattle.bundler_entry.specs.declared.call.EntryCall.{EntryCall}
use Rattle.bundler_entry.specs.declared.entry.MetaAnswer.{MetaAnswer}
use Rattle.bundler_entry.specs.declared.source.ReadFile.{ReadFile}

-- ---- hook

-- the object around cleared properties is cleared itself
pub tree-cleared : (answer : List Item) → cleared (properties_tree answer) ≡ properties_tree (cleared answer)
tree-cleared answer = λ i. h.Open 0 h.Module ∷ h.Open 0 h.ExprStmt ∷ h.Open 0 h.ObjectLit ∷ cleared-append answer (h.Close ∷ h.Close ∷ h.Close ∷ []) i

pub doubled-cleared : (answer : List Item) → first_doubled Es (properties_tree (cleared answer)) ≡ first_doubled Es (properties_tree answer)
doubled-cleared answer = ap (first_doubled Es) (sym (tree-cleared answer)) ∙ first_doubled-cleared Es (properties_tree answer)

pub free-cleared : (answer : List Item) (x : Text) → has_free (properties_tree (cleared answer)) x ≡ has_free (properties_tree answer) x
free-cleared answer x = ap (λ (t : List Item). has_free t x) (sym (tree-cleared answer)) ∙ has_free-cleared (properties_tree answer) x

head_before_ends : (test : Head → Bool) (xs : List Item) → has_head test (xs ++ h.Close ∷ h.Close ∷ h.Close ∷ []) ≡ has_head test xs
head_before_ends test [] = refl
head_before_ends test (h.Open field head ∷ rest) = λ i. elim (test head) [ true ↦ true | false ↦ head_before_ends test rest i ]
head_before_ends test (h.Ident field sym ctxt role ∷ rest) = head_before_ends test rest
head_before_ends test (h.Hole field ∷ rest) = head_before_ends test rest
head_before_ends test (h.Close ∷ rest) = head_before_ends test rest

-- a `with` stands in the object exactly if it stands in the cleared properties
pub with-cleared : (answer : List Item) → has_head is_with (cleared answer) ≡ has_head is_with (properties_tree answer)
with-cleared answer =
    has_head-cleared is_with (of_head is_with (λ meta. (refl, refl, refl, λ kind. refl))) answer
    ∙ sym (head_before_ends is_with answer)

-- The list of an object.

-- what stands around the properties is put before and behind them
pub put_around : (empty first second third inside : List Piece) (a b c : Piece) (properties : List Item) → empty ≡ [] → first ≡ empty ++ a ∷ b ∷ c ∷ [] → second ≡ first ++ inside → third ≡ second ++ TheVariants.Close ∷ TheVariants.Close ∷ TheVariants.Close ∷ [] → item_of a ≡ h.Open 0 h.Module → item_of b ≡ h.Open 0 h.ExprStmt → item_of c ≡ h.Open 0 h.ObjectLit → map item_of inside ≡ properties → map item_of third ≡ properties_tree properties
put_around empty first second third inside a b c properties none begun filled closed of_a of_b of_c of_inside =
    let ends : List Piece = TheVariants.Close ∷ TheVariants.Close ∷ TheVariants.Close ∷ [] in
    ap (map item_of) (closed ∙ ap (λ l. l ++ ends) (filled ∙ ap (λ l. l ++ inside) (begun ∙ ap (λ l. l ++ a ∷ b ∷ c ∷ []) none)))
    ∙ (λ i. of_a i ∷ of_b i ∷ of_c i ∷ (map-append item_of inside ends ∙ ap (λ l. l ++ map item_of ends) of_inside) i)

-- What the code tells of a doubled declaration.

-- the code tells of none
pub told_none : (found : Option Doubled) (d : Option Declared) → option_map doubled_told found ≡ option_map place_and_symbol d → found ≡ None → d ≡ None
told_none found None told is = refl
told_none found (Some x) told is = absurd (none-some _ (sym (ap (option_map doubled_told) is) ∙ told))

-- a declaration with this symbol
abbrev HasSymbol : Option Declared → Text → Type 0
HasSymbol d symbol = (x : Declared) × (d ≡ Some x) × (x.name.sym ≡ symbol)

told_doubled : (found : Option Doubled) (d : Option Declared) (doubled : Doubled) → option_map doubled_told found ≡ option_map place_and_symbol d → found ≡ Some doubled → HasSymbol d doubled.name.now
told_doubled found None doubled told is = absurd (none-some _ (sym told ∙ ap (option_map doubled_told) is))
told_doubled found (Some x) doubled told is = (x, refl, ap (λ (pair : ℕ × Text). pair.1) (same_Some _ _ (sym told ∙ ap (option_map doubled_told) is)))

-- what is known of a value, if there is one
pub if_some : {T : Type 0} (o : Option T) {P Q : T → Type 0} → ((x : T) → P x → Q x) → IfSome o P → IfSome o Q
if_some None weaker known = known
if_some (Some x) weaker known = weaker x known

-- An answer that is read as this tree.

module _ (iife : Bool) (file : Name) (tree answer : List Item) (is : tree ≡ properties_tree answer) where
  undoubled : (d : Option Declared) → first_doubled Es tree ≡ d → first_doubled Es (properties_tree (cleared answer)) ≡ d
  undoubled d told = doubled-cleared answer ∙ ap (first_doubled Es) (sym is) ∙ told

  no_with : (b : Bool) → has_head is_with tree ≡ b → has_head is_with (cleared answer) ≡ b
  no_with b told = with-cleared answer ∙ ap (has_head is_with) (sym is) ∙ told

  free : (b : Bool) → has_free tree (codes "arguments") ≡ b → has_free (properties_tree (cleared answer)) (codes "arguments") ≡ b
  free b told = free-cleared answer (codes "arguments") ∙ ap (λ (t : List Item). has_free t (codes "arguments")) (sym is) ∙ told

  pub is_right : first_doubled Es tree ≡ None → has_head is_with tree ≡ false → (iife ≡ true → has_free tree (codes "arguments") ≡ false) → IsRightAnswer iife answer
  is_right once plain bound p same = record {
    undoubled = undoubled None once;
    no_with = no_with false plain;
    no_arguments = λ under. free false (bound (sym same ∙ under));
  }

  pub is_doubled : (found : Option Doubled) (doubled : Doubled) → option_map doubled_told found ≡ option_map place_and_symbol (first_doubled Es tree) → found ≡ Some doubled → IsFaultOfAnswer iife file answer (DoubledDeclaration file doubled.name.now)
  is_doubled found doubled told there p same =
      let it = told_doubled found (first_doubled Es tree) doubled told there in
      subst (λ symbol. PropertiesFault p file (cleared answer) (DoubledDeclaration file symbol)) it.2 (Faults.doubled it.0 (undoubled (Some it.0) it.1))

  pub has_with : (copy : Name) → copy ≡ file → first_doubled Es tree ≡ None → has_head is_with tree ≡ true → IsFaultOfAnswer iife file answer (WithStatement copy)
  has_with copy named once told p same =
      subst (λ name. PropertiesFault p file (cleared answer) (WithStatement name)) (sym named) (Faults.with_statement (undoubled None once) (no_with true told))

  pub has_arguments : (copy : Name) → copy ≡ file → first_doubled Es tree ≡ None → has_head is_with tree ≡ false → iife ≡ true → has_free tree (codes "arguments") ≡ true → IsFaultOfAnswer iife file answer (ArgumentsUnderIife copy)
  has_arguments copy named once plain under told p same =
      subst (λ name. PropertiesFault p file (cleared answer) (ArgumentsUnderIife name)) (sym named) (Faults.arguments (undoubled None once) (no_with false plain) (same ∙ under) (free true told))

-- What is asked for a file.

module _ (may_give : Name → Bool → List (KeyValueProp Expr) → Type 0) (may_fail : Name → Bool → Type 0) (given : Name) (is_entry iife : Bool) (file : Name) where
  pub of_failure : (fault : Option Fault) → IfSome fault (λ it. (it ≡ HookFails file) × may_fail given is_entry) → IfSome fault (IsAskedFault may_give may_fail given is_entry iife file)
  of_failure fault failed = if_some fault (λ it told. subst (IsAskedFault may_give may_fail given is_entry iife file) (sym told.0) (Hook.fails told.1)) failed

  pub of_answer : (properties : List (KeyValueProp Expr)) → may_give given is_entry properties →
      (fault : Option Fault) →
      IfSome fault (IsFaultOfAnswer iife file (flat_map (key_value_prop_items 0) properties)) →
      IfSome fault (IsAskedFault may_give may_fail given is_entry iife file)
  of_answer properties may fault wrong = if_some fault
      (λ it its.
      Hook.answers (flat_map (key_value_prop_items 0) properties)
      (record { given = properties; may = may; is = refl }) its)
      wrong

-- ---- asked

-- where there is no value, what holds then
pub if_none : {T : Type 0} (o : Option T) {P : Type 0} → P → IfNone o P
if_none None held = held
if_none (Some x) held = tt

-- where there are answers for the modules before a place, the hook may answer for each of them
pub answered-before : (may_give : Name → Bool → List (KeyValueProp Expr) → Type 0) (p : Program)
    (list : List ℕ) (i : ℕ) (answers : List MetaAnswer) →
    AreAnswersBefore may_give p list i answers → AreAnsweredBefore may_give p list i
answered-before may_give p list i answers its j m less at has =
    let found = its.all j m less at has in
    let one = its.each found.0 found.1 in
    let same : one.1.0 ≡ m =
    same_Some one.1.0 m (sym one.1.1 ∙ ap (slice_get list) found.2 ∙ at) in
    subst (IsAnsweredFor may_give p) same (record {
      loaded = one.1.2.1.0;
      there = one.1.2.1.1;
      answer = flat_map (key_value_prop_items 0) found.0.properties.items;
      right = record {
        held = record { given = found.0.properties.items; may = one.1.2.1.2; is = refl };
        right = one.1.2.1.3;
      };
    })

module _ (p : Program) (entry : ℕ) (call : EntryCall) (w : IsCallOf p entry call) (reached : Reached) (r : IsReachedIn p call reached) where
  abbrev list : List ℕ
  list = reached.list.items

  abbrev places : List ℕ
  places = reached.places.items

  abbrev sources : List ReadFile
  sources = call.program.now.sources.items

  abbrev entries : List (FileName × ℕ)
  entries = call.program.now.files.files.now

  -- ---- the entry
  -- it stands last on the list
  entry_last : (k m : ℕ) → slice_get list k ≡ Some m → (b c : Bool) → (k == length places - 1) ≡ b → (m == p.entry) ≡ c → b ≡ c
  entry_last k m at true true here is = refl
  entry_last k m at false false here is = refl
  entry_last k m at true false here is =
      let it = got list p.entry ((r.reached p.entry).1 itself) in
      let last = r.last it.0 it.1 in
      let long = long_places p entry call w reached r in
      let same : k ≡ it.0 = omega (arith, last, long, eqb-true k _ here) in
      let its : m ≡ p.entry = same_Some m p.entry (sym at ∙ ap (slice_get list) same ∙ it.1) in
      absurd (false≢true (sym is ∙ eq-eqb m p.entry its))
  entry_last k m at false true here is =
      let last = r.last k (at ∙ ap (λ n. Some n) (eqb-true m p.entry is)) in
      let long = long_places p entry call w reached r in
      absurd (false≢true (sym here ∙ eq-eqb k (length places - 1) (omega (arith, last, long))))

  pub is_entry : (k m : ℕ) → slice_get list k ≡ Some m → (k == length places - 1) ≡ (m == p.entry)
  is_entry k m at = entry_last k m at _ _ refl refl

  -- ---- what was read of a module of the list
  -- what is found of it is its source
  pub its_source : (k m : ℕ) → slice_get list k ≡ Some m → (found : Option ReadFile) → found ≡ option_and_then (slice_get sources) (slice_get places k) → (source : ReadFile) × (found ≡ Some source) × IsSourceOf p m source
  its_source k m at found is =
      let place = place_of p entry call w reached r k m at in
      let source = source_of p entry call w reached r place.0 m place.2 in
      (source.0, is ∙ ap (option_and_then (slice_get sources)) place.1 ∙ source.1, source.2)

  -- and its file
  pub its_file : (k m : ℕ) → slice_get list k ≡ Some m → (found : Option (FileName × ℕ)) → found ≡ option_and_then (slice_get entries) (slice_get places k) → (file : FileName × ℕ) × (found ≡ Some file) × (file_of p m ≡ Some (name_of file.0))
  its_file k m at found is =
      let file = file_at p entry call w reached r k m at in
      (file.0, is ∙ ap (option_and_then (slice_get entries)) file.1.1 ∙ file.1.2, file.2)

  -- a module that has `import.meta`, with the name that its loader gave
  pub asked_of : (k m : ℕ) → slice_get list k ≡ Some m → (source : ReadFile) (file : FileName × ℕ) → Some source ≡ option_and_then (slice_get sources) (slice_get places k) → Some file ≡ option_and_then (slice_get entries) (slice_get places k) → source.tables.has_import_meta ≡ true → IsAskedModule p m (name_of file.0) (name_of source.given.now)
  asked_of k m at source file of_source of_file has =
      let read = its_source k m at (Some source) of_source in
      let named = its_file k m at (Some file) of_file in
      let same : source ≡ read.0 = same_Some source read.0 read.1 in
      let same_file : file ≡ named.0 = same_Some file named.0 named.1 in
      record {
        loaded = read.2.loaded;
        there = read.2.there;
        named = ap (λ (s : ReadFile). name_of s.given.now) same ∙ read.2.given;
        its_file = named.2 ∙ ap (λ (f : FileName × ℕ). Some (name_of f.0)) (sym same_file);
        asked = sym (ap (λ (s : ReadFile). s.tables.has_import_meta) same ∙ read.2.meta) ∙ has;
      }

  -- one that has none
  pub not_asked : (k m : ℕ) → slice_get list k ≡ Some m → (source : ReadFile) → Some source ≡ option_and_then (slice_get sources) (slice_get places k) → source.tables.has_import_meta ≡ false → has_import_meta (tree_of p m) ≡ false
  not_asked k m at source of_source has =
      let read = its_source k m at (Some source) of_source in
      sym (ap (λ (s : ReadFile). s.tables.has_import_meta) (same_Some source read.0 read.1) ∙ read.2.meta) ∙ has

  -- ---- what the hook is asked for it
  module _ (may_give : Name → Bool → List (KeyValueProp Expr) → Type 0) where
    pub answer_of : (k m : ℕ) → slice_get list k ≡ Some m → (file given : Name) →
        IsAskedModule p m file given → (last iife : Bool)
        (properties : List (KeyValueProp Expr)) → last ≡ (k == length places - 1) →
        iife ≡ is_one_call call.config.now.base.module → may_give given last properties →
        IsRightAnswer iife (flat_map (key_value_prop_items 0) properties) →
        IsHookAnswer may_give p m (Some properties)
    answer_of k m at file given its last iife properties here called may right = (
      its.asked,
      (
        its.loaded,
        its.there,
        subst (λ name. may_give name (m == p.entry) properties) its.named
            (subst (λ b. may_give given b properties) (here ∙ is_entry k m at) may),
        subst (λ b. IsRightAnswer b (flat_map (key_value_prop_items 0) properties))
            (called ∙ sym w.iife) right,
      ),
    )

  module _ (may_give : Name → Bool → List (KeyValueProp Expr) → Type 0) (may_fail : Name → Bool → Type 0) where
    pub refused_for : (k m : ℕ) → slice_get list k ≡ Some m → (file given : Name) → IsAskedModule p m file given → (last iife : Bool) (fault : Option Fault) → last ≡ (k == length places - 1) → iife ≡ is_one_call call.config.now.base.module → IfSome fault (IsAskedFault may_give may_fail given last iife file) → IfSome fault (IsRefusedFor may_give may_fail p m)
    refused_for k m at file given its last iife fault here called wrong = if_some fault
        (λ f it. record {
          file = file;
          given = given;
          its = its;
          wrong = subst (λ b. IsAskedFault may_give may_fail given b p.settings.iife file f) (here ∙ is_entry k m at)
              (subst (λ b. IsAskedFault may_give may_fail given last b file f) (called ∙ sym w.iife) it);
        })
        wrong

  -- ---- the modules in turn
  -- what is so of each module of the list is so of each number of places
  pub at_place : (k : ℕ) → k < length places → (m : ℕ) × (slice_get list k ≡ Some m)
  at_place k within = there_is list k (let long = long_places p entry call w reached r in omega (arith, within, long))

  module _ (may_give : Name → Bool → List (KeyValueProp Expr) → Type 0) where
    -- what was answered for the module at place i
    abbrev IsFound : ℕ → Option (List (KeyValueProp Expr)) → Type 0
    IsFound i found = (m : ℕ) → slice_get list i ≡ Some m → IsHookAnswer may_give p m found

    -- one more, which has no `import.meta`
    pub answers_past : (i : ℕ) (answers after : List MetaAnswer)
        (found : Option (List (KeyValueProp Expr))) → after ≡ answers → found ≡ None →
        AreAnswersBefore may_give p list i answers → IsFound i found →
        AreAnswersBefore may_give p list (i + 1) after
    answers_past i answers after found same none before its =
        subst (AreAnswersBefore may_give p list (i + 1)) (sym same) (record {
          each = λ answer there.
              let it = before.each answer there in (omega (arith, it.0), it.1);
          all = λ j m less at has. by j m less at has (j == i) refl;
        })
      where
        by : (j m : ℕ) → j < i + 1 → slice_get list j ≡ Some m →
            IsTrue (has_import_meta (tree_of p m)) → (b : Bool) → (j == i) ≡ b →
            (answer : MetaAnswer) × Contains answers answer × (answer.which ≡ j)
        by j m less at has true is =
            let here = ap (slice_get list) (sym (eqb-true j i is)) ∙ at in
            let without : has_import_meta (tree_of p m) ≡ false =
            subst (IsHookAnswer may_give p m) none (its m here) in
            absurd (false≢true (sym without ∙ has))
        by j m less at has false is =
            before.all j m (let apart = eqb-false j i is in omega (arith, less, apart)) at has

    -- an answer for one of the modules before place i
    abbrev IsBefore : ℕ → MetaAnswer → Type 0
    IsBefore i answer =
        (answer.which < i) × ((m : ℕ) × (slice_get list answer.which ≡ Some m)
        × IsHookAnswer may_give p m (Some answer.properties.items))

    -- one more, with its answer
    pub answers_more : (i : ℕ) (answers after : List MetaAnswer) (answer : MetaAnswer)
        (found : Option (List (KeyValueProp Expr))) → after ≡ answers ++ answer ∷ [] →
        answer.which ≡ i → found ≡ Some answer.properties.items → i < length places →
        AreAnswersBefore may_give p list i answers → IsFound i found →
        AreAnswersBefore may_give p list (i + 1) after
    answers_more i answers after answer found same here some within before its =
        subst (AreAnswersBefore may_give p list (i + 1)) (sym same) (record {
          each = λ other there. one other there;
          all = λ j n less at has. by j n less at has (j == i) refl;
        })
      where
        one : (other : MetaAnswer) → Contains (answers ++ answer ∷ []) other →
            IsBefore (i + 1) other
        one other there =
            elim (Contains-append_cases answers (answer ∷ []) other there) [
              | inl was ↦ let it = before.each other was in (omega (arith, it.0), it.1)
              | inr (zero, below, e) ↦
                  let m = at_place i within in
                  subst (IsBefore (i + 1)) e (
                    omega (arith, here),
                    (
                      m.0,
                      ap (slice_get list) here ∙ m.1,
                      subst (IsHookAnswer may_give p m.0) some (its m.0 m.1),
                    ),
                  )
              | inr (suc k, below, e) ↦ absurd (omega (arith, below))
            ]

        by : (j n : ℕ) → j < i + 1 → slice_get list j ≡ Some n →
            IsTrue (has_import_meta (tree_of p n)) → (b : Bool) → (j == i) ≡ b →
            (other : MetaAnswer) × Contains (answers ++ answer ∷ []) other
            × (other.which ≡ j)
        by j n less at has true is = (
          answer,
          Contains-append_right answers (answer ∷ []) answer (0, omega arith, refl),
          here ∙ sym (eqb-true j i is),
        )
        by j n less at has false is =
            let it = before.all j n (let apart = eqb-false j i is in omega (arith, less, apart))
            at has in
            (it.0, Contains-append_left answers (answer ∷ []) it.0 it.1, it.2)

    -- all are asked for
    pub answers_all : (i : ℕ) (answers : List MetaAnswer) → length places ≤ i → i ≤ length places →
        AreAnswersBefore may_give p list i answers →
        AreAnswersBefore may_give p list (length list) answers
    answers_all i answers past within before =
        subst (λ n. AreAnswersBefore may_give p list n answers)
        (let long = long_places p entry call w reached r in omega (arith, past, within, long))
        before

  module _ (may_give : Name → Bool → List (KeyValueProp Expr) → Type 0) (may_fail : Name → Bool → Type 0) where
    -- the first that is refused
    pub refused_at : (i : ℕ) → i < length places → AreAnsweredBefore may_give p list i → (fault : Option Fault) → ((m : ℕ) → slice_get list i ≡ Some m → IfSome fault (IsRefusedFor may_give may_fail p m)) → IfSome fault (IsRefusedAt may_give may_fail p list)
    refused_at i within before fault wrong =
        let m = at_place i within in
        if_some fault
        (λ f it. record {
          i = i;
          m = m.0;
          file = it.file;
          loaded = it.its.loaded;
          listed = m.1;
          its_file = it.its.its_file;
          there = it.its.there;
          asked = it.its.asked;
          wrong = subst (λ name. IsAskedFault may_give may_fail name (m.0 == p.entry) p.settings.iife it.file f) it.its.named it.wrong;
          before = before;
        })
        (wrong m.0 m.1)
