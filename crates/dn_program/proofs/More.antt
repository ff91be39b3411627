-- More arguments after more, and a command with more subcommands.
use Rattle.std.proofs.Common.{◌≡◌, ℕ, Bool, false, List, [], ◌∷◌, ◌++◌, ◌∙◌, ap, append_assoc, length, length-append, refl, arith, Result, IfOk, true}
use Rattle.std.specs.Borrow.{Bor}
use Rattle.std.specs.Prelude.{not, ◌&&◌}
use Rattle.std.proofs.lemmas.Bool.{ne_eqb}
use Rattle.std.proofs.lemmas.Result.{IfOk-weaker}
use Rattle.clap.specs.Adds.{AddsConflicts}
use Rattle.clap.specs.Simple.{App, app_of, Shape, is_simple, new_app, with_subcommand}
use Rattle.clap.specs.Walk.{Rule, is_empty, is_free_arg, rule_of, Text}
use Rattle.clap.specs.declared.builder.arg.Arg.{Arg}
use Rattle.clap.specs.declared.builder.command.Command.{Command}
use Rattle.dn_program.specs.Arguments.{HasMore, with_rules}
use Rattle.clap.specs.Built.{AddsSubcommand}
use Rattle.clap.specs.declared.builder.command.Command.TheViews.{out-Command as fields_of}
use Rattle.dn_program.specs.Commands.{netgame, subcommand, with_subcommands}

pub more : (a b c : Command) (r s : List Rule) → HasMore a r b → HasMore b s c → HasMore a (r ++ s) c
more a b c r s one two =
    let app : App = app_of a in
    let joined : List Rule → App = λ rules. record app { top = record app.top { rules = rules } } in
    record {
      app = two.app ∙ ap (λ (app : App). with_rules app s) one.app ∙ ap joined (append_assoc app.top.rules r s);
      globals = two.globals ∙ one.globals;
    }

-- and if that ends well
pub at_last : {E : Type 0} (a b : Command) (r s : List Rule) (result : Result Command E) → HasMore a r b
    → IfOk result (HasMore b s) → IfOk result (HasMore a (r ++ s))
at_last a b r s result one last = IfOk-weaker result (HasMore b s) (HasMore a (r ++ s)) (λ c two. more a b c r s one two) last

-- an argument with a rule on another
pub excludes : (a b : Arg) (x : Bor (List ℕ)) → AddsConflicts a b (x ∷ []) → rule_of b ≡ record (rule_of a) { is_free = false }
excludes a b x adds =
    let long : length b.conflicts.items ≡ length (a.conflicts.items ++ x ∷ []) = ap (λ (xs : List (Bor (List ℕ))). length xs) adds.1 in
    let full : is_empty b.conflicts.items ≡ false =
    ne_eqb (length b.conflicts.items) 0 (λ e. omega (arith, e, long, length-append a.conflicts.items (x ∷ []))) in
    let bound : is_free_arg (record a { conflicts = b.conflicts }) ≡ false = rw full (no (not a.exclusive)) in
    ap rule_of adds.0 ∙ ap (λ (free : Bool). record (rule_of a) { is_free = free }) bound
  where
    no : (b : Bool) → b && false ≡ false
    no true = refl
    no false = refl

-- a subcommand that was made with these arguments
pub added : (old made sub new : Command) (name : Text) (rules : List Rule) → app_of made ≡ new_app name
    → (fields_of made).has_globals ≡ false → HasMore made rules sub → AddsSubcommand old sub new
    → app_of new ≡ with_subcommand (app_of old) (subcommand name rules)
added old made sub new name rules plain local more adds =
    let shape : (app_of sub).top ≡ subcommand name rules =
    ap (λ (app : App). app.top) (more.app ∙ ap (λ (app : App). with_rules app rules) plain) in
    adds.shape (more.globals ∙ local) ∙ ap (λ (shape : Shape). with_subcommand (app_of old) shape) shape

pub one_more : (a b c : Command) (shapes : List Shape) (s : Shape) → app_of b ≡ with_subcommands (app_of a) shapes
    → app_of c ≡ with_subcommand (app_of b) s → app_of c ≡ with_subcommands (app_of a) (shapes ++ s ∷ [])
one_more a b c shapes s before one =
    let joined : List Shape → App = λ subs. record { top = record (app_of a).top { is_leaf = false }; subs = subs } in
    one ∙ ap (λ (app : App). with_subcommand app s) before ∙ ap joined (append_assoc (app_of a).subs shapes (s ∷ []))

pub many_more : (a b c : Command) (xs ys : List Shape) → app_of b ≡ with_subcommands (app_of a) xs
    → app_of c ≡ with_subcommands (app_of b) ys → app_of c ≡ with_subcommands (app_of a) (xs ++ ys)
many_more a b c xs ys before more =
    let joined : List Shape → App = λ subs. record { top = record (app_of a).top { is_leaf = false }; subs = subs } in
    more ∙ ap (λ (app : App). with_subcommands app ys) before ∙ ap joined (append_assoc (app_of a).subs xs ys)

pub simple : is_simple netgame ≡ true
unfolding netgame
simple = refl
