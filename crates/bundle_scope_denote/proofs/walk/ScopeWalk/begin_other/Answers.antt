-- What is noted of the node is put in front of what is noted of those around it.
use Rattle.std.proofs.Common.{◌≡◌, ◌∷◌, ◌++◌, length, option_map, map, drop, ap, sym, subst, ◌∙◌}
use Rattle.std.specs.Option.{option_to_list}
use Rattle.std.proofs.lemmas.List.{take_rest}
use Rattle.bundle_syntax.specs.Item.{head_of, item_of}
use Rattle.bundle_scope_denote.specs.declared.walk.Open.{Open}
use Rattle.bundle_scope_denote.specs.Kinds.{is_in_field, kind_made}
use Rattle.bundle_scope_denote.specs.Numbers.{KeepsNumbers, in_scope, name_as, numbered_scope}
use Rattle.bundle_scope_denote.specs.Walked.{IsDefault, StaysOnce, begins_nameless}
use Rattle.bundle_scope_denote.specs.Steps.{walk_names, nodes_open, scope_made, scopes_of}
use Rattle.bundle_scope_denote.proofs.StepLemmas.{on_ok}
use Rattle.bundle_scope_denote.proofs.walk.ScopeWalk.begin_other.Goals as goal

pub returns : goal.returns
returns c =
    let old = c.args.self.now in
    let place = c.args.place in
    let head = head_of c.args.node.now in
    let is_nameless = begins_nameless (map item_of (drop place c.args.pieces.now)) in
    let opened = c.opened-opened.ensures in
    let made : option_map numbered_scope c.made_by-made.result ≡ scope_made old.inner place c.args.field head =
    c.made_by-made.ensures ∙ ap (λ a. option_map (in_scope place a) (kind_made head old.inner.block old.inner.is_default)) c.scope_in-around.ensures in
    let declared : IsDefault (map name_as c.default_at.new.names.keys) place old.top is_nameless c.in_ok-default.default =
    subst (λ l. IsDefault (map name_as c.default_at.new.names.keys) place old.top (begins_nameless (map item_of l)) c.in_ok-default.default) (take_rest c.args.pieces.now place) c.in_ok-default.ensures.declaration in
    on_ok c.open.result (λ its. record {
      default = c.in_ok-default.default;
      is_default = subst (λ names. IsDefault names place old.top is_nameless c.in_ok-default.default) (sym its.names) declared;
      declarations = its.declarations ∙ c.in_ok-push_some.ensures.items;
      occurrences = its.occurrences;
      keeps = subst (KeepsNumbers (walk_names old)) (sym its.names) c.in_ok-default.ensures.keeps;
      once = subst (StaysOnce (walk_names old)) (sym its.names) c.in_ok-default.ensures.once;
      scopes = its.scopes ∙ c.in_ok-own.ensures.items ∙ ap (λ x. scopes_of old ++ option_to_list x) made;
      way = ap (λ (x : Open). x.way) its.inner ∙ opened.way;
      variable = ap (λ (x : Open). x.variable) its.inner ∙ opened.variable;
      block = ap (λ (x : Open). x.block) its.inner ∙ opened.block;
      defaults = ap (λ (x : Open). x.is_default) its.inner ∙ opened.default;
      heads = λ f. ap (λ (x : Open). is_in_field x.head f) its.inner ∙ opened.head f;
      left = ap (λ (x : Open). x.leaves_first_out) its.inner ∙ opened.left;
      around = ap (λ (x : Open). x.around) its.inner ∙ opened.around ∙ c.scope_in-around.ensures;
      own = ap (λ (x : Open). x.own) its.inner ∙ opened.own ∙ c.in_ok-own.ensures.number ∙ ap (option_map (λ _. length (scopes_of old))) made;
      nodes = its.nodes ∙ ap (λ x. x ∷ nodes_open old) (sym its.inner);
      stays = record { top = its.stays.top; reading = its.stays.reading; kind = its.stays.kind };
    }) c.open.ensures
