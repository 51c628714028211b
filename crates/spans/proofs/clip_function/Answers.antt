-- `spans::clip_function` meets its contract: a function's numbers in a row change evenly, within the bounds that clipping asks for.
use mathlib.Core.Path.{◌≡◌, sym, ◌∙◌, subst}
use native.Mathlib.Omega.{arith}
use lib.IntN.{ℤ}
use Rattle.spans.specs.Span.{number_at, Linear, Clipped, BesideLit, ClippedBut}
use Rattle.spans.proofs.RowFunctions.{words_linear, words_number, words_as, function_linear, row_linear}
use Rattle.spans.proofs.BesideLit.{but_none, but_all, but_some}
use Rattle.spans.proofs.clip_function.Goals as goal

pub number_at-start-requires : goal.number_at-start-requires
number_at-start-requires c = (words_linear (function_linear c.requires.1), c.requires.2)

pub keeps_all-requires : goal.keeps_all-requires
keeps_all-requires c = (c.requires.0, words_linear (let along : Linear c.args.f.slope c.number_at-start.result = subst (Linear c.args.f.slope) (sym (let first_is_lem : c.number_at-start.result ≡ number_at c.args.f.drop c.args.f.start c.args.j = c.number_at-start.ensures ∙ words_number (function_linear c.requires.1) c.args.j in first_is_lem)) (row_linear c.requires.1 c.requires.2) in along))

pub returns-then-keeps_all : goal.returns-then-keeps_all
returns-then-keeps_all c =
    let a = c.args in
    subst (λ (z : ℤ). ClippedBut a.lit a.f.slope z a.span a.span) (let first_is_lem : c.number_at-start.result ≡ number_at c.args.f.drop c.args.f.start c.args.j = c.number_at-start.ensures ∙ words_number (function_linear c.requires.1) c.args.j in first_is_lem)
    (but_none (words_as (let along : Linear c.args.f.slope c.number_at-start.result = subst (Linear c.args.f.slope) (sym (let first_is_lem : c.number_at-start.result ≡ number_at c.args.f.drop c.args.f.start c.args.j = c.number_at-start.ensures ∙ words_number (function_linear c.requires.1) c.args.j in first_is_lem)) (row_linear c.requires.1 c.requires.2) in along) (λ (x y : ℤ). Clipped x y a.span a.span) (c.keeps_all.ensures c.if-keeps_all.true)))

pub beside_lit-left-requires : goal.beside_lit-left-requires
beside_lit-left-requires c = (c.requires.0, words_linear (let along : Linear c.args.f.slope c.number_at-start.result = subst (Linear c.args.f.slope) (sym (let first_is_lem : c.number_at-start.result ≡ number_at c.args.f.drop c.args.f.start c.args.j = c.number_at-start.ensures ∙ words_number (function_linear c.requires.1) c.args.j in first_is_lem)) (row_linear c.requires.1 c.requires.2) in along))

pub returns-then-left : goal.returns-then-left
returns-then-left c =
    let a = c.args in
    subst (λ (z : ℤ). ClippedBut a.lit a.f.slope z a.span c.beside_lit-left.result) (let first_is_lem : c.number_at-start.result ≡ number_at c.args.f.drop c.args.f.start c.args.j = c.number_at-start.ensures ∙ words_number (function_linear c.requires.1) c.args.j in first_is_lem) (but_all (let beside : BesideLit c.args.lit c.args.f.slope c.number_at-start.result c.args.span c.beside_lit-left.result = let a = c.args in words_as (let along : Linear c.args.f.slope c.number_at-start.result = subst (Linear c.args.f.slope) (sym (let first_is_lem : c.number_at-start.result ≡ number_at c.args.f.drop c.args.f.start c.args.j = c.number_at-start.ensures ∙ words_number (function_linear c.requires.1) c.args.j in first_is_lem)) (row_linear c.requires.1 c.requires.2) in along) (λ (x y : ℤ). BesideLit a.lit x y a.span c.beside_lit-left.result) c.beside_lit-left.ensures in beside) c.if-left.true)

pub clip-requires : goal.clip-requires
clip-requires c =
    (record { some = omega arith; limited = omega (arith, (let beside : BesideLit c.args.lit c.args.f.slope c.number_at-start.result c.args.span c.beside_lit-left.result = let a = c.args in words_as (let along : Linear c.args.f.slope c.number_at-start.result = subst (Linear c.args.f.slope) (sym (let first_is_lem : c.number_at-start.result ≡ number_at c.args.f.drop c.args.f.start c.args.j = c.number_at-start.ensures ∙ words_number (function_linear c.requires.1) c.args.j in first_is_lem)) (row_linear c.requires.1 c.requires.2) in along) (λ (x y : ℤ). BesideLit a.lit x y a.span c.beside_lit-left.result) c.beside_lit-left.ensures in beside).limited, c.requires.0.limited) }, words_linear (let along : Linear c.args.f.slope c.number_at-start.result = subst (Linear c.args.f.slope) (sym (let first_is_lem : c.number_at-start.result ≡ number_at c.args.f.drop c.args.f.start c.args.j = c.number_at-start.ensures ∙ words_number (function_linear c.requires.1) c.args.j in first_is_lem)) (row_linear c.requires.1 c.requires.2) in along))

pub returns : goal.returns
returns c =
    let a = c.args in
    subst (λ (z : ℤ). ClippedBut a.lit a.f.slope z a.span c.clip.result) (let first_is_lem : c.number_at-start.result ≡ number_at c.args.f.drop c.args.f.start c.args.j = c.number_at-start.ensures ∙ words_number (function_linear c.requires.1) c.args.j in first_is_lem)
    (but_some (let beside : BesideLit c.args.lit c.args.f.slope c.number_at-start.result c.args.span c.beside_lit-left.result = let a = c.args in words_as (let along : Linear c.args.f.slope c.number_at-start.result = subst (Linear c.args.f.slope) (sym (let first_is_lem : c.number_at-start.result ≡ number_at c.args.f.drop c.args.f.start c.args.j = c.number_at-start.ensures ∙ words_number (function_linear c.requires.1) c.args.j in first_is_lem)) (row_linear c.requires.1 c.requires.2) in along) (λ (x y : ℤ). BesideLit a.lit x y a.span c.beside_lit-left.result) c.beside_lit-left.ensures in beside) (words_as (let along : Linear c.args.f.slope c.number_at-start.result = subst (Linear c.args.f.slope) (sym (let first_is_lem : c.number_at-start.result ≡ number_at c.args.f.drop c.args.f.start c.args.j = c.number_at-start.ensures ∙ words_number (function_linear c.requires.1) c.args.j in first_is_lem)) (row_linear c.requires.1 c.requires.2) in along) (λ (x y : ℤ). Clipped x y c.beside_lit-left.result c.clip.result) c.clip.ensures))
