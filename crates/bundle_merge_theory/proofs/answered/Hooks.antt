-- Theorem of this folder (`all-held`): the item that stands for the `import.meta` of a module is
-- right by itself; and what is made of modules for one hook is made for each that may answer the
-- same.
-- Used by the crates `bundle_merge`, `bundler_entry`.
use Rattle.std.proofs.Common.{◌≡◌, ℕ, List, [], ◌∷◌, Option, Some, sym, subst}
use Rattle.std.specs.List.{AllZip}
use Rattle.bundle_syntax.specs.declared.kind.ExportMetadata.{ExportMetadata}
use Rattle.bundle_syntax.specs.Item.{Item}
use Rattle.bundle_rules.specs.Bundle.{Cause, HoldsMeta, Hooks, MayHold}
use Rattle.bundle_rules.specs.Merged.{IsMetaItem, meta_item}
use Rattle.bundle_rules.specs.Program.{Program}
use Rattle.bundle_merge_theory.specs.made.Given.{HookAnswer, Fresh, Written, BundleContexts}
use Rattle.bundle_merge_theory.specs.made.Made as m
use Rattle.bundle_merge_theory.specs.made.Made.{AreBlocksMade, AreMade, IsAnsweredAs, IsMade}
use Rattle.bundle_merge_theory.specs.planned.Decided.{Decided, DecidedBlock, back_plan, block_plan, front_plan}
use Rattle.bundle_merge_theory.proofs.answered.Meta.{written-made}

module _ (q : Program) (old hooks : Hooks) (list : List ℕ) (context : BundleContexts)
    (answers : ℕ → Option HookAnswer)
    (held : (k : ℕ) (properties : List Item) → answers k ≡ Some (Fresh properties) →
    MayHold q hooks k properties)
    (written : (k ctxt : ℕ) (notes : ExportMetadata) (properties : List Item) →
    answers k ≡ Some (Written ctxt notes properties) →
    IsMetaItem q hooks k (meta_item notes ctxt properties)) where
  answered-as : (k : ℕ) (properties made : List Item) → answers k ≡ Some (Fresh properties) →
      IsAnsweredAs q old context k properties made → IsAnsweredAs q hooks context k properties made
  answered-as k properties made at its = record {
    given = its.given;
    is_given = its.is_given;
    held = held k properties at;
    faultless = its.faultless;
    fit = its.fit;
    steps = its.steps;
    each = its.each;
    rest = its.rest;
    by = its.by;
  }

  one-held : {cause : Cause} {item : List Item} → IsMade q old list context answers cause item →
      IsMade q hooks list context answers cause item
  one-held (m.own statement at its) = m.own statement at its
  one-held (m.imports_names names are is) = m.imports_names names are is
  one-held (m.imports_whole is) = m.imports_whole is
  one-held (m.imports_nothing is) = m.imports_nothing is
  one-held (m.helps is) = m.helps is
  one-held (m.defines bodies are is) = m.defines bodies are is
  one-held (m.loads whole names are forth back is) = m.loads whole names are forth back is
  one-held (m.holds_meta {m = k} properties made at its is) =
      m.holds_meta properties made at (answered-as k properties made at its) is
  one-held (m.holds_written {m = k} its at as_it_is) =
      subst (IsMade q hooks list context answers (HoldsMeta k)) (sym its.is)
      (written-made q hooks list context answers k its.ctxt its.meta its.properties
      (written k its.ctxt its.meta its.properties at) at as_it_is)
  one-held (m.holds_namespace pairs are is) = m.holds_namespace pairs are is
  one-held (m.stars is) = m.stars is
  one-held (m.exports pairs are is) = m.exports pairs are is

  each-held : (causes : List Cause) (items : List (List Item)) →
      AllZip (IsMade q old list context answers) causes items →
      AllZip (IsMade q hooks list context answers) causes items
  each-held [] [] all = tt
  each-held [] (item ∷ items) all = absurd all
  each-held (cause ∷ causes) [] all = absurd all
  each-held (cause ∷ causes) (item ∷ items) all =
      (one-held all.0, each-held causes items all.1)

  blocks-held : {d : Decided} {blocks : List DecidedBlock} {orders : List (List ℕ)}
      {items : List (List Item)} →
      AreBlocksMade q old list context answers d blocks orders items →
      AreBlocksMade q hooks list context answers d blocks orders items
  blocks-held m.none = m.none
  blocks-held {d = d} (m.more {block = block} its behind) =
      m.more
      (record {
        before = its.before;
        each = each-held (block_plan d block.modules) its.before its.each;
        good = its.good;
        sorted = its.sorted;
        unsorted = its.unsorted;
      })
      (blocks-held behind)

  -- ALL HELD
  pub all-held : (d : Decided) (orders : List (List ℕ)) (items : List (List Item)) →
      AreMade q old list context answers d orders items →
      AreMade q hooks list context answers d orders items
  all-held d orders items made = record {
    front = made.front;
    middle = made.middle;
    back = made.back;
    is = made.is;
    in_front = each-held (front_plan d) made.front made.in_front;
    in_blocks = blocks-held made.in_blocks;
    behind = each-held (back_plan d) made.back made.behind;
  }
