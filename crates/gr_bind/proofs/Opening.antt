-- A tree that is well made, taken apart: what is in it is well made too.
use Rattle.std.proofs.Common.{◌≡◌, List, [], ◌∷◌, length, get_or, map, ap, subst, ◌<◌, ◌∙◌, ℕ, zero, suc, arith}
use Rattle.std.specs.List.{AllByRecursion}
use Rattle.gr_ast.specs.Made.{AnyLink, AnyTerm, IsMade, IsMadeLayer}
use Rattle.gr_ast.specs.Trees.{Layer, LinkLayer, TermLayer}
use Rattle.gr_ast.specs.declared.ast.Ast.{Ast, every_here-Ast, every_held-Ast, out-Ast, out-roll-Ast, roll-Ast}
use Rattle.gr_ast.specs.declared.ast.Ast.TheFolds.{map-Ast}
use Rattle.gr_ast.specs.declared.ast.Ast.TheOpen.{Ast-F}
use Rattle.gr_ast.specs.declared.ast.Combined.{Combined, every_held-Combined, out-Combined}
use Rattle.gr_ast.specs.declared.ast.Joined.{Joined, every_held-Joined, out-Joined}
use Rattle.gr_bind.specs.Inside.Parts.{IsMadeLink, IsMadeTerm}

-- the trees in a level are well made
abbrev pub Parts : Layer → Type 0
Parts (Ast-F.Chain at first rest) = IsMade first × AllByRecursion IsMadeLink rest
Parts (Ast-F.Not at of) = IsMade of
Parts (Ast-F.Minus at of) = IsMade of
Parts (Ast-F.Compare at cmp left right) = IsMade left × IsMade right
Parts (Ast-F.Find at seek left right) = IsMade left × IsMade right
Parts (Ast-F.Calc at first rest) = IsMade first × AllByRecursion IsMadeTerm rest
Parts (Ast-F.Between at args) = AllByRecursion IsMade args
Parts (Ast-F.InValues at args) = AllByRecursion IsMade args
Parts _ = Unit {0}

all_held : {X : Type 0} (P : X → Type 0) (held : List ((x : X) × P x)) → AllByRecursion P (map (λ e. e.0) held)
all_held P [] = tt
all_held P (e ∷ held) = (e.1, all_held P held)

abbrev Held : Type 0
Held = (tree : Ast) × IsMade tree

abbrev HeldLink : Type 0
HeldLink = (link : Joined) × IsMadeLink link

abbrev HeldTerm : Type 0
HeldTerm = (term : Combined) × IsMadeTerm term

held_parts : (y : Ast-F Held HeldTerm HeldLink) → Parts (map-Ast Held HeldTerm HeldLink Ast Combined Joined (λ e. e.0) (λ e. e.0) (λ e. e.0) y)
held_parts (Ast-F.Chain at first rest) = (first.1, all_held IsMadeLink rest)
held_parts (Ast-F.Not at of) = of.1
held_parts (Ast-F.Minus at of) = of.1
held_parts (Ast-F.Compare at cmp left right) = (left.1, right.1)
held_parts (Ast-F.Find at seek left right) = (left.1, right.1)
held_parts (Ast-F.Calc at first rest) = (first.1, all_held IsMadeTerm rest)
held_parts (Ast-F.Between at args) = all_held IsMade args
held_parts (Ast-F.InValues at args) = all_held IsMade args
held_parts (Ast-F.Path at text) = tt
held_parts (Ast-F.Number at value) = tt
held_parts (Ast-F.Text at bytes) = tt
held_parts (Ast-F.Truth at value) = tt
held_parts (Ast-F.All at) = tt
held_parts (Ast-F.Word at seek text) = tt
held_parts (Ast-F.FieldTest at path test text) = tt

-- what is in a tree
pub tree_parts : (d : Ast) → IsMade d → Parts (out-Ast d)
tree_parts d made =
    let held = every_held-Ast IsMadeLayer AnyTerm AnyLink d made in
    subst Parts held.1 (held_parts held.0)

-- its own level
pub tree_layer : (d : Ast) → IsMade d → IsMadeLayer (out-Ast d)
tree_layer d made = every_here-Ast IsMadeLayer AnyTerm AnyLink d made

-- the number behind a sign
pub term_part : (d : Combined) → IsMadeTerm d → IsMade (out-Combined d).of
term_part d made =
    let held = every_held-Combined IsMadeLayer AnyTerm AnyLink d made in
    subst (λ (layer : TermLayer). IsMade layer.of) held.1 held.0.of.1

-- the condition behind a sign
pub link_part : (d : Joined) → IsMadeLink d → IsMade (out-Joined d).of
link_part d made =
    let held = every_held-Joined IsMadeLayer AnyTerm AnyLink d made in
    subst (λ (layer : LinkLayer). IsMade layer.of) held.1 held.0.of.1

-- what is in a tree of this level
pub parts_at : (d : Ast) (layer : Layer) → d ≡ roll-Ast layer → IsMade d → Parts layer
parts_at d layer is made = subst Parts (ap out-Ast is ∙ out-roll-Ast layer) (tree_parts d made)

pub layer_at : (d : Ast) (layer : Layer) → d ≡ roll-Ast layer → IsMade d → IsMadeLayer layer
layer_at d layer is made = subst IsMadeLayer (ap out-Ast is ∙ out-roll-Ast layer) (tree_layer d made)

-- what holds of each holds of one
pub all_at : {X : Type 0} (P : X → Type 0) (xs : List X) (i : ℕ) (d : X) → i < length xs → AllByRecursion P xs → P (get_or xs i d)
all_at P [] i d inside all = absurd (omega (arith, inside))
all_at P (x ∷ xs) zero d inside all = all.0
all_at P (x ∷ xs) (suc i) d inside all = all_at P xs i d (omega (arith, inside)) all.1
