-- Names of at most 64 bytes, part by part of a declaration.
use Rattle.std.specs.Prelude.{Bool, true, ◌&&◌, nat_le, List, map, length}
use Rattle.std.specs.List.{list_all}
use Rattle.std.specs.Option.{option_map_or}
use Rattle.dbn_value.specs.declared.term.Term.{Term}
use Rattle.dbn_value.specs.declared.term.Term.TheVariants.{Var, Const}
use Rattle.dbn_sexp.specs.declared.sexp.Sexp.{Sexp}
use Rattle.dbn_sexp.specs.Printing.{atoms}
use Rattle.dbn_net.specs.declared.written.WrittenFormula.{WrittenFormula}
use Rattle.dbn_net.specs.declared.written.WrittenAtom.{WrittenAtom}
use Rattle.dbn_net.specs.declared.written.WrittenPattern.{WrittenPattern}
use Rattle.dbn_net.specs.declared.written.WrittenArc.{WrittenArc}
use Rattle.dbn_net.specs.declared.written.WrittenInput.{WrittenInput}
use Rattle.dbn_net.specs.declared.written.WrittenInput.TheVariants.{In, Read}
use Rattle.dbn_net.specs.declared.written.WrittenTransition.{WrittenTransition}
use Rattle.dbn_net.specs.declared.written.Written.{Written}
use Rattle.dbn_net.specs.declared.written.Written.TheVariants as written
use Rattle.dbn_net.specs.Forms.{Name}
use Rattle.dbn_net.specs.Printing.{formula_sexp}
use Rattle.dbn_net.specs.Judging.{is_short, scope_names, var_names}

abbrev pub short_name : Name → Bool
short_name name = nat_le (length name) 64

abbrev pub short_names : List Name → Bool
short_names names = list_all short_name names

-- each name in it is short
unfoldable pub short_sexp : Sexp → Bool
short_sexp one = list_all is_short (atoms one.item)

abbrev pub short_term : Term → Bool
short_term (Var x) = short_name x.name
short_term (Const v) = true

abbrev pub short_terms : List Term → Bool
short_terms terms = list_all short_term terms

unfoldable pub short_formula : WrittenFormula → Bool
short_formula p = short_sexp (formula_sexp p)

abbrev pub short_atom : WrittenAtom → Bool
short_atom g = short_name g.name && short_terms g.terms

abbrev pub short_pattern : WrittenPattern → Bool
short_pattern h = short_terms h.terms

abbrev pub short_arc : WrittenArc → Bool
short_arc p = short_name p.place && list_all short_pattern p.patterns

abbrev pub short_input : WrittenInput → Bool
short_input (In p) = short_arc p
short_input (Read g) = short_atom g

abbrev pub short_transition : WrittenTransition → Bool
short_transition r =
    short_name r.name
    && list_all short_input r.inputs
    && option_map_or short_formula r.guard true
    && short_names (scope_names r.asked)
    && short_names (var_names r.fresh)
    && option_map_or short_atom r.call true
    && list_all short_arc r.outs
    && list_all short_arc r.backs

abbrev pub short_written : Written → Bool
short_written (written.Relation name fields) = short_name name && short_names (map (λ f. f.0) fields)
short_written (written.Key rel fields) = short_name rel && short_names fields
short_written (written.Foreign rel fields to to_fields) = short_name rel && short_names fields && short_name to && short_names to_fields
short_written (written.Always name body) = short_name name && short_formula body
short_written (written.Query name vars body) = short_name name && short_names (scope_names vars) && short_formula body
short_written (written.Action name params deletes adds) =
    short_name name && short_names (scope_names params) && list_all short_atom deletes && list_all short_atom adds
short_written (written.Control name shape) = short_name name
short_written (written.View name query) = short_name name && short_name query
short_written (written.Transition r) = short_transition r
short_written (written.Fact rel row) = short_name rel
short_written (written.Token place many row) = short_name place
