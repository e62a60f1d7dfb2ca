-- Each name is found under its place, with one more and before.
use Rattle.std.proofs.Common.{◌≡◌, ◌∙◌, ◌++◌, ◌∷◌, [], ℕ, List, Some, String, is_ok, inr, sym, subst, string_bytes}
use Rattle.std.specs.BTreeMap.{get_by_text}
use Rattle.std.specs.Map.{update}
use Rattle.std.specs.Str.{bytes_eq}
use Rattle.std.proofs.lemmas.Map.Text.{btree_map_updates_text}
use Rattle.gutsirava_maps.specs.Names.{IsNew}
use Rattle.gutsirava_maps.proofs.NameLemmas.{named_last, numbered_both, numbered_insert}
use Rattle.gutsirava_maps.proofs.names.NameList.add.Goals as goal

pub invariant_of-self-in-Break-branch-3 : goal.invariant_of-self-in-Break-branch-3
invariant_of-self-in-Break-branch-3 c = record {
  numbered =
      numbered_insert c.args.self.now.numbers c.insert.new.self c.args.self.now.names.items
      (string_bytes c.in_ok-key.key) (Some c.in-Ok.number)
      (subst (λ (text : List ℕ). IsNew text c.args.self.now.names.items) (sym c.in_ok-key.ensures.ok) c.requires)
      (btree_map_updates_text (string_bytes c.in_ok-key.key) c.args.self.now.numbers c.insert.new.self
      (Some c.in-Ok.number) c.in_ok-insert.ensures.updates) c.args.self.now.numbered;
}

pub invariant_of-self-2 : goal.invariant_of-self-2
invariant_of-self-2 c = record {
  numbered =
      numbered_both c.args.self.now.numbers c.insert.new.self c.args.self.now.names.items c.push.new.self.items
      (string_bytes c.in_ok-key.key) c.in_ok-name.name (is_ok c.push.result)
      (subst (λ (text : List ℕ). IsNew text c.args.self.now.names.items) (sym c.in_ok-key.ensures.ok) c.requires)
      (c.in_ok-name.ensures.ok ∙ sym c.in_ok-key.ensures.ok)
      (subst (λ (n : ℕ). (text : List ℕ) → get_by_text c.insert.new.self text
      ≡ update bytes_eq (get_by_text c.args.self.now.numbers) (string_bytes c.in_ok-key.key) (Some n) text)
      (c.in-Ok.ensures.1 ∙ c.len.ensures ∙ c.args.self.now.names.ok.0)
      (btree_map_updates_text (string_bytes c.in_ok-key.key) c.args.self.now.numbers c.insert.new.self
      (Some c.in-Ok.number) c.in_ok-insert.ensures.updates)) c.push.ensures.items c.args.self.now.numbered;
}

pub returns-clause-named : goal.returns-clause-named
returns-clause-named c =
    named_last c.args.self.now.names.items c.push.new.self.items c.in_ok-name.name c.args.name.now c.in-Ok.number
    c.in_ok-push.ensures.items (c.in-Ok.ensures.1 ∙ c.len.ensures ∙ c.args.self.now.names.ok.0) c.in_ok-name.ensures.ok

pub returns-clause-put : goal.returns-clause-put
returns-clause-put c = inr (c.in_ok-name.name, c.in_ok-name.ensures.ok, c.in_ok-push.ensures.items)
