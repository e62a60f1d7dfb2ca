-- The measures of the walk: sixteen times the size of what is walked over, and a rank that falls where a
-- function hands on all of it. What its loops keep: the elements so far are listed.
use Rattle.std.proofs.Common.{◌≡◌, ◌++◌, ◌+◌, ◌*◌, take}
use Rattle.std.specs.List.{flat_map}
use Rattle.bundle_tree_listed.specs.Tree.{class_member_items, expr_items, expr_or_spread_items, expr_or_spread_place_items, object_pat_prop_items, param_items, pat_items, pat_place_items, prop_or_spread_items, stmt_items, switch_case_items, var_declarator_items}
use Rattle.bundle_tree_list.proofs.walk.Walk.+walk.Given as goal

abbrev pub decreases-block_stmt : goal.decreases-block_stmt
decreases-block_stmt = λ a. 16 * goal.size-block_stmt a + 2

abbrev pub decreases-option_block_stmt : goal.decreases-option_block_stmt
decreases-option_block_stmt = λ a. 16 * goal.size-option_block_stmt a + 3

abbrev pub decreases-stmt : goal.decreases-stmt
decreases-stmt = λ a. 16 * goal.size-stmt a + 0

abbrev pub decreases-each_stmt : goal.decreases-each_stmt
decreases-each_stmt = λ a. 16 * goal.size-each_stmt a + 1

abbrev pub decreases-option_boxed_stmt : goal.decreases-option_boxed_stmt
decreases-option_boxed_stmt = λ a. 16 * goal.size-option_boxed_stmt a + 1

abbrev pub decreases-switch_case : goal.decreases-switch_case
decreases-switch_case = λ a. 16 * goal.size-switch_case a + 0

abbrev pub decreases-each_switch_case : goal.decreases-each_switch_case
decreases-each_switch_case = λ a. 16 * goal.size-each_switch_case a + 1

abbrev pub decreases-catch_clause : goal.decreases-catch_clause
decreases-catch_clause = λ a. 16 * goal.size-catch_clause a + 0

abbrev pub decreases-option_catch_clause : goal.decreases-option_catch_clause
decreases-option_catch_clause = λ a. 16 * goal.size-option_catch_clause a + 1

abbrev pub decreases-for_init : goal.decreases-for_init
decreases-for_init = λ a. 16 * goal.size-for_init a + 0

abbrev pub decreases-option_for_init : goal.decreases-option_for_init
decreases-option_for_init = λ a. 16 * goal.size-option_for_init a + 1

abbrev pub decreases-for_head : goal.decreases-for_head
decreases-for_head = λ a. 16 * goal.size-for_head a + 0

abbrev pub decreases-decl : goal.decreases-decl
decreases-decl = λ a. 16 * goal.size-decl a + 0

abbrev pub decreases-var_decl : goal.decreases-var_decl
decreases-var_decl = λ a. 16 * goal.size-var_decl a + 2

abbrev pub decreases-var_declarator : goal.decreases-var_declarator
decreases-var_declarator = λ a. 16 * goal.size-var_declarator a + 0

abbrev pub decreases-each_var_declarator : goal.decreases-each_var_declarator
decreases-each_var_declarator = λ a. 16 * goal.size-each_var_declarator a + 1

abbrev pub decreases-expr : goal.decreases-expr
decreases-expr = λ a. 16 * goal.size-expr a + 0

abbrev pub decreases-option_expr : goal.decreases-option_expr
decreases-option_expr = λ a. 16 * goal.size-option_expr a + 1

abbrev pub decreases-each_expr : goal.decreases-each_expr
decreases-each_expr = λ a. 16 * goal.size-each_expr a + 1

abbrev pub decreases-option_boxed_expr : goal.decreases-option_boxed_expr
decreases-option_boxed_expr = λ a. 16 * goal.size-option_boxed_expr a + 1

abbrev pub decreases-paren_expr : goal.decreases-paren_expr
decreases-paren_expr = λ a. 16 * goal.size-paren_expr a + 1

abbrev pub decreases-member_expr : goal.decreases-member_expr
decreases-member_expr = λ a. 16 * goal.size-member_expr a + 3

abbrev pub decreases-super_prop_expr : goal.decreases-super_prop_expr
decreases-super_prop_expr = λ a. 16 * goal.size-super_prop_expr a + 3

abbrev pub decreases-callee : goal.decreases-callee
decreases-callee = λ a. 16 * goal.size-callee a + 1

abbrev pub decreases-expr_or_spread : goal.decreases-expr_or_spread
decreases-expr_or_spread = λ a. 16 * goal.size-expr_or_spread a + 1

abbrev pub decreases-each_option_expr_or_spread : goal.decreases-each_option_expr_or_spread
decreases-each_option_expr_or_spread = λ a. 16 * goal.size-each_option_expr_or_spread a + 3

abbrev pub decreases-each_expr_or_spread : goal.decreases-each_expr_or_spread
decreases-each_expr_or_spread = λ a. 16 * goal.size-each_expr_or_spread a + 2

abbrev pub decreases-option_each_expr_or_spread : goal.decreases-option_each_expr_or_spread
decreases-option_each_expr_or_spread = λ a. 16 * goal.size-option_each_expr_or_spread a + 3

abbrev pub decreases-arrow_body : goal.decreases-arrow_body
decreases-arrow_body = λ a. 16 * goal.size-arrow_body a + 0

abbrev pub decreases-opt_chain_base : goal.decreases-opt_chain_base
decreases-opt_chain_base = λ a. 16 * goal.size-opt_chain_base a + 4

abbrev pub decreases-opt_call : goal.decreases-opt_call
decreases-opt_call = λ a. 16 * goal.size-opt_call a + 3

abbrev pub decreases-tpl : goal.decreases-tpl
decreases-tpl = λ a. 16 * goal.size-tpl a + 2

abbrev pub decreases-prop_or_spread : goal.decreases-prop_or_spread
decreases-prop_or_spread = λ a. 16 * goal.size-prop_or_spread a + 0

abbrev pub decreases-each_prop_or_spread : goal.decreases-each_prop_or_spread
decreases-each_prop_or_spread = λ a. 16 * goal.size-each_prop_or_spread a + 1

abbrev pub decreases-prop : goal.decreases-prop
decreases-prop = λ a. 16 * goal.size-prop a + 0

abbrev pub decreases-key_value_prop : goal.decreases-key_value_prop
decreases-key_value_prop = λ a. 16 * goal.size-key_value_prop a + 3

abbrev pub decreases-computed_prop_name : goal.decreases-computed_prop_name
decreases-computed_prop_name = λ a. 16 * goal.size-computed_prop_name a + 1

abbrev pub decreases-prop_name : goal.decreases-prop_name
decreases-prop_name = λ a. 16 * goal.size-prop_name a + 2

abbrev pub decreases-member_prop : goal.decreases-member_prop
decreases-member_prop = λ a. 16 * goal.size-member_prop a + 2

abbrev pub decreases-super_prop : goal.decreases-super_prop
decreases-super_prop = λ a. 16 * goal.size-super_prop a + 2

abbrev pub decreases-pat : goal.decreases-pat
decreases-pat = λ a. 16 * goal.size-pat a + 0

abbrev pub decreases-option_pat : goal.decreases-option_pat
decreases-option_pat = λ a. 16 * goal.size-option_pat a + 1

abbrev pub decreases-each_pat : goal.decreases-each_pat
decreases-each_pat = λ a. 16 * goal.size-each_pat a + 1

abbrev pub decreases-each_option_pat : goal.decreases-each_option_pat
decreases-each_option_pat = λ a. 16 * goal.size-each_option_pat a + 2

abbrev pub decreases-array_pat : goal.decreases-array_pat
decreases-array_pat = λ a. 16 * goal.size-array_pat a + 3

abbrev pub decreases-rest_pat : goal.decreases-rest_pat
decreases-rest_pat = λ a. 16 * goal.size-rest_pat a + 1

abbrev pub decreases-object_pat : goal.decreases-object_pat
decreases-object_pat = λ a. 16 * goal.size-object_pat a + 2

abbrev pub decreases-object_pat_prop : goal.decreases-object_pat_prop
decreases-object_pat_prop = λ a. 16 * goal.size-object_pat_prop a + 0

abbrev pub decreases-each_object_pat_prop : goal.decreases-each_object_pat_prop
decreases-each_object_pat_prop = λ a. 16 * goal.size-each_object_pat_prop a + 1

abbrev pub decreases-assign_target : goal.decreases-assign_target
decreases-assign_target = λ a. 16 * goal.size-assign_target a + 0

abbrev pub decreases-function : goal.decreases-function
decreases-function = λ a. 16 * goal.size-function a + 0

abbrev pub decreases-param : goal.decreases-param
decreases-param = λ a. 16 * goal.size-param a + 1

abbrev pub decreases-each_param : goal.decreases-each_param
decreases-each_param = λ a. 16 * goal.size-each_param a + 2

abbrev pub decreases-class : goal.decreases-class
decreases-class = λ a. 16 * goal.size-class a + 0

abbrev pub decreases-class_member : goal.decreases-class_member
decreases-class_member = λ a. 16 * goal.size-class_member a + 0

abbrev pub decreases-each_class_member : goal.decreases-each_class_member
decreases-each_class_member = λ a. 16 * goal.size-each_class_member a + 1

abbrev pub invariant-each_stmt-loop-element : goal.invariant-each_stmt-loop-element
invariant-each_stmt-loop-element l = l.self ≡ l.initial.self ++ flat_map (stmt_items l.field) (take l.element-index l.element-items)

abbrev pub invariant-each_switch_case-loop-element : goal.invariant-each_switch_case-loop-element
invariant-each_switch_case-loop-element l = l.self ≡ l.initial.self ++ flat_map (switch_case_items l.field) (take l.element-index l.element-items)

abbrev pub invariant-each_var_declarator-loop-element : goal.invariant-each_var_declarator-loop-element
invariant-each_var_declarator-loop-element l = l.self ≡ l.initial.self ++ flat_map (var_declarator_items l.field) (take l.element-index l.element-items)

abbrev pub invariant-each_expr-loop-element : goal.invariant-each_expr-loop-element
invariant-each_expr-loop-element l = l.self ≡ l.initial.self ++ flat_map (expr_items l.field) (take l.element-index l.element-items)

abbrev pub invariant-each_option_expr_or_spread-loop-place : goal.invariant-each_option_expr_or_spread-loop-place
invariant-each_option_expr_or_spread-loop-place l = l.self ≡ l.initial.self ++ flat_map (expr_or_spread_place_items l.field) (take l.place-index l.place-items)

abbrev pub invariant-each_expr_or_spread-loop-element : goal.invariant-each_expr_or_spread-loop-element
invariant-each_expr_or_spread-loop-element l = l.self ≡ l.initial.self ++ flat_map (expr_or_spread_items l.field) (take l.element-index l.element-items)

abbrev pub invariant-each_prop_or_spread-loop-element : goal.invariant-each_prop_or_spread-loop-element
invariant-each_prop_or_spread-loop-element l = l.self ≡ l.initial.self ++ flat_map (prop_or_spread_items l.field) (take l.element-index l.element-items)

abbrev pub invariant-each_pat-loop-element : goal.invariant-each_pat-loop-element
invariant-each_pat-loop-element l = l.self ≡ l.initial.self ++ flat_map (pat_items l.role l.field) (take l.element-index l.element-items)

abbrev pub invariant-each_option_pat-loop-place : goal.invariant-each_option_pat-loop-place
invariant-each_option_pat-loop-place l = l.self ≡ l.initial.self ++ flat_map (pat_place_items l.role l.field) (take l.place-index l.place-items)

abbrev pub invariant-each_object_pat_prop-loop-element : goal.invariant-each_object_pat_prop-loop-element
invariant-each_object_pat_prop-loop-element l = l.self ≡ l.initial.self ++ flat_map (object_pat_prop_items l.role l.field) (take l.element-index l.element-items)

abbrev pub invariant-each_param-loop-element : goal.invariant-each_param-loop-element
invariant-each_param-loop-element l = l.self ≡ l.initial.self ++ flat_map (param_items l.field) (take l.element-index l.element-items)

abbrev pub invariant-each_class_member-loop-element : goal.invariant-each_class_member-loop-element
invariant-each_class_member-loop-element l = l.self ≡ l.initial.self ++ flat_map (class_member_items l.field) (take l.element-index l.element-items)
