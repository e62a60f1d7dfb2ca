-- The measures of the builder: 8 times the room that is left, and a rank that falls where a function hands on
-- all of it. What its loops keep: the elements so far are taken, and the others are still to be.
use Rattle.std.proofs.Common.{◌≡◌, ℕ, ◌+◌, ◌*◌, ◌-◌, ◌++◌, length}
use Rattle.std.specs.List.{flat_map}
use Rattle.bundle_tree_listed.specs.Tree.{class_member_items, expr_items, expr_or_spread_items, expr_or_spread_place_items, object_pat_prop_items, param_items, pat_items, pat_place_items, prop_or_spread_items, stmt_items, switch_case_items, var_declarator_items}
use Rattle.bundle_tree_parse.specs.Sorts.{ACase, AClassMember, ADeclarator, AParameter, APattern, APatternProperty, APropertyOrSpread, AStmt, AnArgument, AnExpr}
use Rattle.bundle_tree_parse.specs.Parse.{after_each, after_place, taken}
use Rattle.bundle_tree_parse.proofs.build.Builder.+build.Given as goal

abbrev pub decreases-args_of_new : goal.decreases-args_of_new
decreases-args_of_new l = 8 * l.room + 2

abbrev pub decreases-array_pat_of : goal.decreases-array_pat_of
decreases-array_pat_of l = 8 * l.room + 3

abbrev pub decreases-arrow_body : goal.decreases-arrow_body
decreases-arrow_body l = 8 * l.room

abbrev pub decreases-arrow_body_of : goal.decreases-arrow_body_of
decreases-arrow_body_of l = 8 * l.room + 6

abbrev pub decreases-assign_target : goal.decreases-assign_target
decreases-assign_target l = 8 * l.room

abbrev pub decreases-assign_target_of : goal.decreases-assign_target_of
decreases-assign_target_of l = 8 * l.room + 4

abbrev pub decreases-block_stmt : goal.decreases-block_stmt
decreases-block_stmt l = 8 * l.room

abbrev pub decreases-block_stmt_of : goal.decreases-block_stmt_of
decreases-block_stmt_of l = 8 * l.room + 2

abbrev pub decreases-boxed_expr : goal.decreases-boxed_expr
decreases-boxed_expr l = 8 * l.room + 1

abbrev pub decreases-boxed_expr_of : goal.decreases-boxed_expr_of
decreases-boxed_expr_of l = 8 * l.room + 5

abbrev pub decreases-boxed_pat : goal.decreases-boxed_pat
decreases-boxed_pat l = 8 * l.room + 1

abbrev pub decreases-boxed_stmt : goal.decreases-boxed_stmt
decreases-boxed_stmt l = 8 * l.room + 1

abbrev pub decreases-branch_stmt_of : goal.decreases-branch_stmt_of
decreases-branch_stmt_of l = 8 * l.room + 3

abbrev pub decreases-call_expr_of : goal.decreases-call_expr_of
decreases-call_expr_of l = 8 * l.room + 3

abbrev pub decreases-callee : goal.decreases-callee
decreases-callee l = 8 * l.room

abbrev pub decreases-callee_of : goal.decreases-callee_of
decreases-callee_of l = 8 * l.room + 6

abbrev pub decreases-catch_clause : goal.decreases-catch_clause
decreases-catch_clause l = 8 * l.room

abbrev pub decreases-catch_clause_of : goal.decreases-catch_clause_of
decreases-catch_clause_of l = 8 * l.room + 2

abbrev pub decreases-class : goal.decreases-class
decreases-class l = 8 * l.room

abbrev pub decreases-class_member : goal.decreases-class_member
decreases-class_member l = 8 * l.room

abbrev pub decreases-class_member_of : goal.decreases-class_member_of
decreases-class_member_of l = 8 * l.room + 3

abbrev pub decreases-class_of : goal.decreases-class_of
decreases-class_of l = 8 * l.room + 3

abbrev pub decreases-compound_expr_of : goal.decreases-compound_expr_of
decreases-compound_expr_of l = 8 * l.room + 3

abbrev pub decreases-computed_prop_name_of : goal.decreases-computed_prop_name_of
decreases-computed_prop_name_of l = 8 * l.room + 2

abbrev pub decreases-decl_of : goal.decreases-decl_of
decreases-decl_of l = 8 * l.room + 3

abbrev pub decreases-each_class_member : goal.decreases-each_class_member
decreases-each_class_member l = 8 * l.room + 1

abbrev pub decreases-each_expr : goal.decreases-each_expr
decreases-each_expr l = 8 * l.room + 1

abbrev pub decreases-each_expr_or_spread : goal.decreases-each_expr_or_spread
decreases-each_expr_or_spread l = 8 * l.room + 1

abbrev pub decreases-each_object_pat_prop : goal.decreases-each_object_pat_prop
decreases-each_object_pat_prop l = 8 * l.room + 1

abbrev pub decreases-each_option_expr_or_spread : goal.decreases-each_option_expr_or_spread
decreases-each_option_expr_or_spread l = 8 * l.room + 2

abbrev pub decreases-each_param : goal.decreases-each_param
decreases-each_param l = 8 * l.room + 1

abbrev pub decreases-each_pat : goal.decreases-each_pat
decreases-each_pat l = 8 * l.room + 1

abbrev pub decreases-each_place_of_pat : goal.decreases-each_place_of_pat
decreases-each_place_of_pat l = 8 * l.room + 2

abbrev pub decreases-each_prop_or_spread : goal.decreases-each_prop_or_spread
decreases-each_prop_or_spread l = 8 * l.room + 1

abbrev pub decreases-each_stmt : goal.decreases-each_stmt
decreases-each_stmt l = 8 * l.room + 1

abbrev pub decreases-each_switch_case : goal.decreases-each_switch_case
decreases-each_switch_case l = 8 * l.room + 1

abbrev pub decreases-each_var_declarator : goal.decreases-each_var_declarator
decreases-each_var_declarator l = 8 * l.room + 1

abbrev pub decreases-expr : goal.decreases-expr
decreases-expr l = 8 * l.room

abbrev pub decreases-expr_of : goal.decreases-expr_of
decreases-expr_of l = 8 * l.room + 4

abbrev pub decreases-expr_or_spread : goal.decreases-expr_or_spread
decreases-expr_or_spread l = 8 * l.room

abbrev pub decreases-expr_or_spread_of : goal.decreases-expr_or_spread_of
decreases-expr_or_spread_of l = 8 * l.room + 1

abbrev pub decreases-for_head : goal.decreases-for_head
decreases-for_head l = 8 * l.room

abbrev pub decreases-for_head_of : goal.decreases-for_head_of
decreases-for_head_of l = 8 * l.room + 7

abbrev pub decreases-for_init : goal.decreases-for_init
decreases-for_init l = 8 * l.room

abbrev pub decreases-for_init_of : goal.decreases-for_init_of
decreases-for_init_of l = 8 * l.room + 5

abbrev pub decreases-for_stmt_of : goal.decreases-for_stmt_of
decreases-for_stmt_of l = 8 * l.room + 2

abbrev pub decreases-function : goal.decreases-function
decreases-function l = 8 * l.room

abbrev pub decreases-function_expr_of : goal.decreases-function_expr_of
decreases-function_expr_of l = 8 * l.room + 2

abbrev pub decreases-function_of : goal.decreases-function_of
decreases-function_of l = 8 * l.room + 2

abbrev pub decreases-key_value_prop_of : goal.decreases-key_value_prop_of
decreases-key_value_prop_of l = 8 * l.room + 1

abbrev pub decreases-loop_stmt_of : goal.decreases-loop_stmt_of
decreases-loop_stmt_of l = 8 * l.room + 3

abbrev pub decreases-member_expr_of : goal.decreases-member_expr_of
decreases-member_expr_of l = 8 * l.room + 2

abbrev pub decreases-member_prop : goal.decreases-member_prop
decreases-member_prop l = 8 * l.room

abbrev pub decreases-member_prop_of : goal.decreases-member_prop_of
decreases-member_prop_of l = 8 * l.room + 3

abbrev pub decreases-method_of : goal.decreases-method_of
decreases-method_of l = 8 * l.room + 1

abbrev pub decreases-object_pat_of : goal.decreases-object_pat_of
decreases-object_pat_of l = 8 * l.room + 2

abbrev pub decreases-object_pat_prop : goal.decreases-object_pat_prop
decreases-object_pat_prop l = 8 * l.room

abbrev pub decreases-object_pat_prop_of : goal.decreases-object_pat_prop_of
decreases-object_pat_prop_of l = 8 * l.room + 3

abbrev pub decreases-operator_expr_of : goal.decreases-operator_expr_of
decreases-operator_expr_of l = 8 * l.room + 3

abbrev pub decreases-opt_call_of : goal.decreases-opt_call_of
decreases-opt_call_of l = 8 * l.room + 2

abbrev pub decreases-opt_chain_base : goal.decreases-opt_chain_base
decreases-opt_chain_base l = 8 * l.room

abbrev pub decreases-opt_chain_base_of : goal.decreases-opt_chain_base_of
decreases-opt_chain_base_of l = 8 * l.room + 3

abbrev pub decreases-option_block_stmt : goal.decreases-option_block_stmt
decreases-option_block_stmt l = 8 * l.room + 1

abbrev pub decreases-option_boxed_expr : goal.decreases-option_boxed_expr
decreases-option_boxed_expr l = 8 * l.room + 2

abbrev pub decreases-option_boxed_stmt : goal.decreases-option_boxed_stmt
decreases-option_boxed_stmt l = 8 * l.room + 2

abbrev pub decreases-option_catch_clause : goal.decreases-option_catch_clause
decreases-option_catch_clause l = 8 * l.room + 1

abbrev pub decreases-option_expr : goal.decreases-option_expr
decreases-option_expr l = 8 * l.room + 1

abbrev pub decreases-option_expr_or_spread : goal.decreases-option_expr_or_spread
decreases-option_expr_or_spread l = 8 * l.room + 1

abbrev pub decreases-option_for_init : goal.decreases-option_for_init
decreases-option_for_init l = 8 * l.room + 1

abbrev pub decreases-option_pat : goal.decreases-option_pat
decreases-option_pat l = 8 * l.room + 1

abbrev pub decreases-param : goal.decreases-param
decreases-param l = 8 * l.room

abbrev pub decreases-param_of : goal.decreases-param_of
decreases-param_of l = 8 * l.room + 1

abbrev pub decreases-paren_expr_of : goal.decreases-paren_expr_of
decreases-paren_expr_of l = 8 * l.room + 2

abbrev pub decreases-pat : goal.decreases-pat
decreases-pat l = 8 * l.room

abbrev pub decreases-pat_of : goal.decreases-pat_of
decreases-pat_of l = 8 * l.room + 6

abbrev pub decreases-place_of_pat : goal.decreases-place_of_pat
decreases-place_of_pat l = 8 * l.room + 1

abbrev pub decreases-plain_stmt_of : goal.decreases-plain_stmt_of
decreases-plain_stmt_of l = 8 * l.room + 2

abbrev pub decreases-prop_member_of : goal.decreases-prop_member_of
decreases-prop_member_of l = 8 * l.room + 2

abbrev pub decreases-prop_name : goal.decreases-prop_name
decreases-prop_name l = 8 * l.room

abbrev pub decreases-prop_name_of : goal.decreases-prop_name_of
decreases-prop_name_of l = 8 * l.room + 3

abbrev pub decreases-prop_of : goal.decreases-prop_of
decreases-prop_of l = 8 * l.room + 2

abbrev pub decreases-prop_or_spread : goal.decreases-prop_or_spread
decreases-prop_or_spread l = 8 * l.room

abbrev pub decreases-prop_or_spread_of : goal.decreases-prop_or_spread_of
decreases-prop_or_spread_of l = 8 * l.room + 3

abbrev pub decreases-rest_pat_of : goal.decreases-rest_pat_of
decreases-rest_pat_of l = 8 * l.room + 2

abbrev pub decreases-stmt : goal.decreases-stmt
decreases-stmt l = 8 * l.room

abbrev pub decreases-stmt_of : goal.decreases-stmt_of
decreases-stmt_of l = 8 * l.room + 4

abbrev pub decreases-super_prop : goal.decreases-super_prop
decreases-super_prop l = 8 * l.room

abbrev pub decreases-super_prop_expr_of : goal.decreases-super_prop_expr_of
decreases-super_prop_expr_of l = 8 * l.room + 1

abbrev pub decreases-super_prop_of : goal.decreases-super_prop_of
decreases-super_prop_of l = 8 * l.room + 3

abbrev pub decreases-switch_case : goal.decreases-switch_case
decreases-switch_case l = 8 * l.room

abbrev pub decreases-switch_case_of : goal.decreases-switch_case_of
decreases-switch_case_of l = 8 * l.room + 2

abbrev pub decreases-tpl : goal.decreases-tpl
decreases-tpl l = 8 * l.room

abbrev pub decreases-tpl_of : goal.decreases-tpl_of
decreases-tpl_of l = 8 * l.room + 2

abbrev pub decreases-var_decl_of : goal.decreases-var_decl_of
decreases-var_decl_of l = 8 * l.room + 2

abbrev pub decreases-var_declarator : goal.decreases-var_declarator
decreases-var_declarator l = 8 * l.room

abbrev pub decreases-var_declarator_of : goal.decreases-var_declarator_of
decreases-var_declarator_of l = 8 * l.room + 2

abbrev pub decreases-wide_operator_expr_of : goal.decreases-wide_operator_expr_of
decreases-wide_operator_expr_of l = 8 * l.room + 2

abbrev pub invariant-each_expr-loop-count : goal.invariant-each_expr-loop-count
invariant-each_expr-loop-count l =
    (l.initial.self ≡ flat_map (expr_items l.field) l.list.items ++ l.self)
    × (after_each (taken l.room AnExpr l.field) l.field (length l.initial.self) l.initial.self
    ≡ after_each (taken l.room AnExpr l.field) l.field (l.most - l.count) l.self)

abbrev pub invariant-each_expr_or_spread-loop-count : goal.invariant-each_expr_or_spread-loop-count
invariant-each_expr_or_spread-loop-count l =
    (l.initial.self ≡ flat_map (expr_or_spread_items l.field) l.list.items ++ l.self)
    × (after_each (taken l.room AnArgument l.field) l.field (length l.initial.self) l.initial.self
    ≡ after_each (taken l.room AnArgument l.field) l.field (l.most - l.count) l.self)

abbrev pub invariant-each_option_expr_or_spread-loop-count : goal.invariant-each_option_expr_or_spread-loop-count
invariant-each_option_expr_or_spread-loop-count l =
    (l.initial.self ≡ flat_map (expr_or_spread_place_items l.field) l.list.items ++ l.self)
    × (after_each (after_place (taken l.room AnArgument l.field) l.field) l.field (length l.initial.self) l.initial.self
    ≡ after_each (after_place (taken l.room AnArgument l.field) l.field) l.field (l.most - l.count) l.self)

abbrev pub invariant-each_prop_or_spread-loop-count : goal.invariant-each_prop_or_spread-loop-count
invariant-each_prop_or_spread-loop-count l =
    (l.initial.self ≡ flat_map (prop_or_spread_items l.field) l.list.items ++ l.self)
    × (after_each (taken l.room APropertyOrSpread l.field) l.field (length l.initial.self) l.initial.self
    ≡ after_each (taken l.room APropertyOrSpread l.field) l.field (l.most - l.count) l.self)

abbrev pub invariant-each_pat-loop-count : goal.invariant-each_pat-loop-count
invariant-each_pat-loop-count l =
    (l.initial.self ≡ flat_map (pat_items l.role l.field) l.list.items ++ l.self)
    × (after_each (taken l.room (APattern l.role) l.field) l.field (length l.initial.self) l.initial.self
    ≡ after_each (taken l.room (APattern l.role) l.field) l.field (l.most - l.count) l.self)

abbrev pub invariant-each_place_of_pat-loop-count : goal.invariant-each_place_of_pat-loop-count
invariant-each_place_of_pat-loop-count l =
    (l.initial.self ≡ flat_map (pat_place_items l.role l.field) l.list.items ++ l.self)
    × (after_each (after_place (taken l.room (APattern l.role) l.field) l.field) l.field (length l.initial.self) l.initial.self
    ≡ after_each (after_place (taken l.room (APattern l.role) l.field) l.field) l.field (l.most - l.count) l.self)

abbrev pub invariant-each_object_pat_prop-loop-count : goal.invariant-each_object_pat_prop-loop-count
invariant-each_object_pat_prop-loop-count l =
    (l.initial.self ≡ flat_map (object_pat_prop_items l.role l.field) l.list.items ++ l.self)
    × (after_each (taken l.room (APatternProperty l.role) l.field) l.field (length l.initial.self) l.initial.self
    ≡ after_each (taken l.room (APatternProperty l.role) l.field) l.field (l.most - l.count) l.self)

abbrev pub invariant-each_stmt-loop-count : goal.invariant-each_stmt-loop-count
invariant-each_stmt-loop-count l =
    (l.initial.self ≡ flat_map (stmt_items l.field) l.list.items ++ l.self)
    × (after_each (taken l.room AStmt l.field) l.field (length l.initial.self) l.initial.self
    ≡ after_each (taken l.room AStmt l.field) l.field (l.most - l.count) l.self)

abbrev pub invariant-each_switch_case-loop-count : goal.invariant-each_switch_case-loop-count
invariant-each_switch_case-loop-count l =
    (l.initial.self ≡ flat_map (switch_case_items l.field) l.list.items ++ l.self)
    × (after_each (taken l.room ACase l.field) l.field (length l.initial.self) l.initial.self
    ≡ after_each (taken l.room ACase l.field) l.field (l.most - l.count) l.self)

abbrev pub invariant-each_var_declarator-loop-count : goal.invariant-each_var_declarator-loop-count
invariant-each_var_declarator-loop-count l =
    (l.initial.self ≡ flat_map (var_declarator_items l.field) l.list.items ++ l.self)
    × (after_each (taken l.room ADeclarator l.field) l.field (length l.initial.self) l.initial.self
    ≡ after_each (taken l.room ADeclarator l.field) l.field (l.most - l.count) l.self)

abbrev pub invariant-each_param-loop-count : goal.invariant-each_param-loop-count
invariant-each_param-loop-count l =
    (l.initial.self ≡ flat_map (param_items l.field) l.list.items ++ l.self)
    × (after_each (taken l.room AParameter l.field) l.field (length l.initial.self) l.initial.self
    ≡ after_each (taken l.room AParameter l.field) l.field (l.most - l.count) l.self)

abbrev pub invariant-each_class_member-loop-count : goal.invariant-each_class_member-loop-count
invariant-each_class_member-loop-count l =
    (l.initial.self ≡ flat_map (class_member_items l.field) l.list.items ++ l.self)
    × (after_each (taken l.room AClassMember l.field) l.field (length l.initial.self) l.initial.self
    ≡ after_each (taken l.room AClassMember l.field) l.field (l.most - l.count) l.self)
