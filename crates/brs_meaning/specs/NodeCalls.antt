-- What a call of a node's method asks for: one row for each method, in the order of the table of node calls.
use Rattle.std.specs.Prelude.{ℕ, List, length, Option, Some, None, cond, ◌==◌, nat_le}
use Rattle.chan_values.specs.declared.error_code.ErrorCode.TheVariants.{E6, E9}
use Rattle.heap_meaning.specs.declared.plain.Plain.TheVariants.{Truth}
use Rattle.heap_meaning.specs.Values.{StoreValue, Scalar}
use Rattle.heap_meaning.specs.Store.{Store}
use Rattle.brs_meaning.specs.declared.node_method.NodeMethod.{NodeMethod}
use Rattle.brs_meaning.specs.declared.node_method.NodeMethod.TheVariants as m
use Rattle.brs_meaning.specs.Request as r
use Rattle.brs_meaning.specs.Request.{Access, Asks}
use Rattle.brs_meaning.specs.Given.{Given, Gives, Wants, Fails}
use Rattle.brs_meaning.specs.Leaving.{leaving, all_leaving}
use Rattle.brs_meaning.specs.Taking.{taking, text_then, node_then, number_then, truth_then, value_then, target_then}

abbrev pub asked : Access → Given
asked access = Wants (Asks access)

-- an access with a value that leaves its actor, and with several
abbrev pub asked_with : {A : Type 0} → (A → Access) → Option A → Given
asked_with access (Some x) = asked (access x)
asked_with access None = Fails E9

-- with any number of further arguments
abbrev pub called_func : (node : ℕ) → (arguments : List StoreValue) → Store → Given
called_func n arguments store =
    cond (nat_le 1 (length arguments)) (text_then arguments (λ name further. asked_with (r.CallFunc n name) (all_leaving store further))) (Fails E6)

abbrev pub node_call : NodeMethod → (node : ℕ) → (arguments : List StoreValue) → Store → Given
node_call m.GetField n vs store = taking 1 vs (text_then vs (λ f rest. asked (r.Get n f)))
node_call m.SetField n vs store = taking 2 vs (text_then vs (λ f rest. value_then rest (λ v more. asked_with (r.Set n f) (leaving store v))))
node_call m.HasField n vs store = taking 1 vs (text_then vs (λ f rest. asked (r.Has n f)))
node_call m.AddField n vs store = taking 3 vs (text_then vs (λ f rest. text_then rest (λ kind more. truth_then more (λ always none. asked (r.Add n f kind always)))))
node_call m.ObserveField n vs store = taking 2 vs (text_then vs (λ f rest. target_then rest (λ function. asked (r.ObserveBy n f function)) (λ port. asked (r.ObserveAt n f port))))
node_call m.UnobserveField n vs store = taking 1 vs (text_then vs (λ f rest. asked (r.Unobserve n f)))
node_call m.AppendChild n vs store = taking 1 vs (node_then vs (λ child rest. asked (r.Append n child)))
node_call m.InsertChild n vs store = taking 2 vs (node_then vs (λ child rest. number_then rest (λ at more. asked (r.Insert n child at))))
node_call m.RemoveChild n vs store = taking 1 vs (node_then vs (λ child rest. asked (r.Remove n child)))
node_call m.CreateChild n vs store = taking 1 vs (text_then vs (λ kind rest. asked (r.Create n kind)))
node_call m.GetChild n vs store = taking 1 vs (number_then vs (λ at rest. asked (r.Child n at)))
node_call m.GetChildCount n vs store = taking 0 vs (asked (r.Count n))
node_call m.GetParent n vs store = taking 0 vs (asked (r.Parent n))
node_call m.FindNode n vs store = taking 1 vs (text_then vs (λ id rest. asked (r.Find n id)))
node_call m.SetFocus n vs store = taking 1 vs (truth_then vs (λ on rest. asked (r.Focus n on)))
node_call m.HasFocus n vs store = taking 0 vs (asked (r.HasFocus n))
node_call m.IsInFocusChain n vs store = taking 0 vs (asked (r.InChain n))
node_call m.Subtype n vs store = taking 0 vs (asked (r.Subtype n))
node_call m.CallFunc n vs store = called_func n vs store
node_call m.IsSameNode n vs store = taking 1 vs (node_then vs (λ other rest. Gives (Scalar (Truth (n == other))) store))
