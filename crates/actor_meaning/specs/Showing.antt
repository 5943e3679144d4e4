-- What the outcomes, answers and arguments of the running machine are in the meaning.
use Rattle.std.specs.Prelude.{◌≡◌, ℕ}
use Rattle.chan_values.specs.declared.access.Access as c
use Rattle.chan_values.specs.declared.access.Access.TheVariants as a
use Rattle.chan_values.specs.declared.portable.Portable.{Portable}
use Rattle.chan_values.specs.declared.portable.Portable.TheVariants as p
use Rattle.chan_values.specs.View.{tree_of}
use Rattle.brs_grammar.specs.Form.{Text}
use Rattle.brs_meaning.specs.Request as q
use Rattle.brs_meaning.specs.Reduction as r
use Rattle.brs_meaning.specs.Answering as w
use Rattle.actor_meaning.specs.declared.outcome.Request.{Request}
use Rattle.actor_meaning.specs.declared.outcome.Request.TheVariants as s
use Rattle.actor_meaning.specs.declared.outcome.Outcome.{Outcome}
use Rattle.actor_meaning.specs.declared.outcome.Outcome.TheVariants as o
use Rattle.actor_meaning.specs.declared.outcome.Answer.{Answer}
use Rattle.actor_meaning.specs.declared.outcome.Answer.TheVariants as n
use Rattle.actor_meaning.specs.declared.outcome.Arguments.{Arguments}
use Rattle.actor_meaning.specs.declared.outcome.Arguments.TheVariants as g

-- an observer is the name of a function or a port
abbrev pub ObserverIs : ℕ → Text → Portable → q.Access → Type 0
ObserverIs node field (p.Words name) x = x ≡ q.ObserveBy node field name
ObserverIs node field (p.Port port) x = x ≡ q.ObserveAt node field port
ObserverIs node field _ x = ⊥

abbrev pub AccessIs : c.Access → q.Access → Type 0
AccessIs (a.Make kind) x = x ≡ q.Make kind
AccessIs (a.Scene kind) x = x ≡ q.Scene kind
AccessIs (a.Get node field) x = x ≡ q.Get node field
AccessIs (a.Set node field value) x = x ≡ q.Set node field (tree_of value)
AccessIs (a.Has node field) x = x ≡ q.Has node field
AccessIs (a.Add node field kind always) x = x ≡ q.Add node field kind always
AccessIs (a.Observe node field target) x = ObserverIs node field target x
AccessIs (a.Unobserve node field) x = x ≡ q.Unobserve node field
AccessIs (a.Append node child) x = x ≡ q.Append node child
AccessIs (a.Insert node child at) x = x ≡ q.Insert node child at
AccessIs (a.Remove node child) x = x ≡ q.Remove node child
AccessIs (a.Create node kind) x = x ≡ q.Create node kind
AccessIs (a.Child node at) x = x ≡ q.Child node at
AccessIs (a.Count node) x = x ≡ q.Count node
AccessIs (a.Parent node) x = x ≡ q.Parent node
AccessIs (a.Find node id) x = x ≡ q.Find node id
AccessIs (a.Focus node on) x = x ≡ q.Focus node on
AccessIs (a.HasFocus node) x = x ≡ q.HasFocus node
AccessIs (a.InChain node) x = x ≡ q.InChain node
AccessIs (a.Subtype node) x = x ≡ q.Subtype node
AccessIs (a.CallFunc node name arguments) x = x ≡ q.CallFunc node name arguments

abbrev pub RequestIs : Request → q.Request → Type 0
RequestIs (s.Access access) (q.Asks x) = AccessIs access x
RequestIs s.MakePort q.MakePort = Unit {0}
RequestIs (s.Wait port limited) (q.Wait port' limited') = (port ≡ port') × (limited ≡ limited')
RequestIs (s.Poll port) (q.Poll port') = port ≡ port'
RequestIs _ _ = ⊥

abbrev pub OutcomeIs : Outcome → r.Outcome → Type 0
OutcomeIs o.Went r.Went = Unit {0}
OutcomeIs (o.Wants request) (r.Asked x) = RequestIs request x
OutcomeIs (o.Printed text) (r.Printed t) = text ≡ t
OutcomeIs (o.Raised error place) (r.Raised error' place') = (error ≡ error') × (place ≡ place')
OutcomeIs (o.Returned value) (r.Returned t) = tree_of value ≡ t
OutcomeIs (o.TooBig place) (r.TooBig place') = place ≡ place'
OutcomeIs _ _ = ⊥

abbrev pub reply_of : Answer → w.Reply
reply_of (n.Value value) = w.Value (tree_of value)
reply_of (n.Message message) = w.Told message
reply_of (n.Failed error) = w.Failed error

abbrev pub arguments_of : Arguments → w.Arguments
arguments_of (g.Values values) = w.Values values
arguments_of (g.Message message) = w.Message' message
arguments_of g.Start = w.Start
