use Rattle.dbn_sexp.proofs.PrintLaws.{list_text}
use Rattle.dbn_sexp.proofs.printing.+printing.Goals as goal

pub print_item-returns-in_ok-push-in-List-2-clause-text : goal.print_item-returns-in_ok-push-in-List-2-clause-text
print_item-returns-in_ok-push-in-List-2-clause-text t c =
    let inside = rw c.as_slice-in-List.ensures at c.in_ok-print_spaced-in-List.ensures.text in
    list_text _ _ _ _ _ _ c.in-List.is c.in_ok-push-in-List.ensures.items inside c.in_ok-push-in-List-2.ensures.items
