-- Each name of a bundle has the context of something that has one, or that of globals.
use Rattle.std.proofs.Common.{◌≡◌, ◌⊎◌, ◌<◌, ℕ, List, Option, inl, inr, ap, sym, ◌∙◌, subst}
use Rattle.std.specs.Prelude.{Contains, slice_get}
use Rattle.bundle_syntax.specs.Item.{Item}
use Rattle.bundle_rules.specs.Bundle.{Cause, Hooks, AsModule}
use Rattle.bundle_rules.specs.Denotes.{Denoted}
use Rattle.bundle_rules.specs.Idents.{Ident}
use Rattle.bundle_rules.specs.Meaning.{Meant}
use Rattle.bundle_rules.specs.Places.{Occurrence, occurrences}
use Rattle.bundle_rules.specs.Program.{Program, tree_of}
use Rattle.bundle_rules.proofs.PlacesLemmas.{occurrences-at}
use Rattle.bundle_link_index.proofs.ProgramLemmas.{got as contains-at}
use Rattle.bundle_merge_theory.specs.joined.Joined.{joined_items}
use Rattle.bundle_merge_theory.specs.joined.Notes.{IsListedIn}
use Rattle.bundle_merge_theory.specs.made.Given.{BundleContexts, Holder, HookAnswer, TopOf}
use Rattle.bundle_merge_theory.specs.made.Alone
use Rattle.bundle_merge_theory.specs.made.Alone.{IsHolder, NameAlone}
use Rattle.bundle_merge_theory.specs.together.Together.{AreMergedTogether}
use Rattle.bundle_merge_theory.proofs.joined.Declarations.{occurrence-of-item}
use Rattle.bundle_merge_theory.proofs.together.Apart.{named-of}
use Rattle.bundle_merge_theory.proofs.together.Facts.{whole-items}
use Rattle.bundle_merge_theory.proofs.together.Statements.{StandsAt, of-item}
use Rattle.bundle_merge_theory.proofs.together.Tables.{due-defines, entry-context, holder-context, holder-is, holds, notes-of}
use Rattle.bundle_merge.specs.Standing.{HasContextsBelow}

-- something of a program has this context
abbrev IsHeld : Program → (ℕ → Option HookAnswer) → BundleContexts → ℕ → Type 0
IsHeld p answers context c = (h : Holder) × IsHolder p answers h × (c ≡ context h)

module _ (p : Program) (hooks : Hooks) (list : List ℕ) (context : BundleContexts)
    (answers : ℕ → Option HookAnswer) (plan : List Cause) (items : List (List Item))
    (its : AreMergedTogether p hooks list context answers plan items) where
  item-context : (m : ℕ) (cause : Cause) (item : List Item) →
      StandsAt p hooks list context answers plan items its m cause item → (o : Occurrence) →
      IsListedIn item o → (o.ctxt ≡ 1) ⊎ IsHeld p answers context o.ctxt
  item-context m cause item stands o listed =
      let named = named-of p hooks list context answers plan items its m cause item stands o listed
      in
      by named.alone
    where
      by : {begins : ℕ} {all : List Denoted} {meant : Meant} →
          NameAlone p list context answers cause item begins all o meant →
          (o.ctxt ≡ 1) ⊎ IsHeld p answers context o.ctxt
      by (Alone.inside holder inner within found owns never is ctxt) = inr (holder, is, ctxt)
      by (Alone.of_top {l = l} not_inner never top same) =
          let one = holds p l top in
          inr (
            one.0,
            holder-is p answers one.1,
            ap (λ (i : Ident). i.1) same ∙ holder-context p list context one.1,
          )
      by (Alone.of_function {c = c} is out inside declares entry) =
          let both = due-defines p AsModule stands.due is in
          inr (TopOf c, Alone.top_of both.0, entry-context context c (tree_of p c) entry)
      by (Alone.free is_one not_inner arguments) = inl is_one

  -- so it is below each number that these are below
  pub contexts-below : (n : ℕ) → 1 < n → ((h : Holder) → IsHolder p answers h → context h < n) →
      HasContextsBelow n (joined_items items)
  contexts-below n one below a there =
      let at = contains-at (occurrences (joined_items items)) a there in
      let of = occurrence-of-item items
      (whole-items p hooks list context answers plan items its
      (notes-of p hooks list context answers plan items its.alone)) a.place a
      (occurrences-at (joined_items items) at.0 a at.1) in
      let stands = of-item p hooks list context answers plan items its of.m of.item of.there in
      let same : a.ctxt ≡ of.o.ctxt = ap (λ (b : Occurrence). b.ctxt) of.is in
      subst (λ c. c < n) (sym same)
      (by of.o.ctxt (item-context of.m stands.0 of.item stands.1 of.o (of.j, of.at)))
    where
      by : (c : ℕ) → (c ≡ 1) ⊎ IsHeld p answers context c → c < n
      by c (inl global) = subst (λ k. k < n) (sym global) one
      by c (inr held) = subst (λ k. k < n) (sym held.2) (below held.0 held.1)
