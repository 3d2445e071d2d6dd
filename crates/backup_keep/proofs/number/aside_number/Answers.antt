use Rattle.std.proofs.Common.{◌≡◌, sym, ◌∙◌, subst, arith, IfSome}
use Rattle.std.specs.Fmt.{decimal}
use Rattle.std.proofs.lemmas.Bool.{eqb-false}
use Rattle.std.proofs.lemmas.Bool.Decides.{nat_tests}
use Rattle.backup_keep.specs.Asides.{IsAsideNumber}
use Rattle.backup_keep.proofs.Numbers.{number_read, number_written, first_digit}
use Rattle.backup_keep.proofs.number.aside_number.Goals as goal

pub returns-then-starts_with-clause-whole : goal.returns-then-starts_with-clause-whole
returns-then-starts_with-clause-whole c n number written =
    let first = first_digit c.args.name.now n number written in
    let plus = c.if-starts_with.ensures.byte (omega arith) (omega arith) (λ w o h. h) in
    let wrong : ⊥ = grind (arith, nat_tests) in
    absurd wrong

pub returns-then-starts_with-2-clause-whole : goal.returns-then-starts_with-2-clause-whole
returns-then-starts_with-2-clause-whole c n number written =
    let first = first_digit c.args.name.now n number written in
    let zero = c.if-starts_with-2.ensures.byte (omega arith) (omega arith) (λ w o h. h) in
    let wrong : ⊥ = grind (arith, nat_tests) in
    absurd wrong

pub returns-clause-number : goal.returns-clause-number
returns-clause-number c =
    let no_plus = c.if-starts_with.ensures.byte (omega arith) (omega arith) (λ w o h. h) in
    let no_zero = c.if-starts_with-2.ensures.byte (omega arith) (omega arith) (λ w o h. h) in
    subst (λ o. IfSome o (λ n. IsAsideNumber n × (c.args.name.now ≡ decimal n))) (sym c.ok.ensures.value)
    (number_read c.args.name.now c.parse.result (eqb-false _ _ (sym no_plus)) (eqb-false _ _ (sym no_zero)) c.parse.ensures.value.0)

pub returns-clause-whole : goal.returns-clause-whole
returns-clause-whole c n number written =
    c.ok.ensures.value ∙ number_written c.args.name.now c.parse.result n number written c.parse.ensures.value.0
