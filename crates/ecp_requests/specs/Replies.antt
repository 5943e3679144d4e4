-- The replies to requests.
use Rattle.std.specs.Prelude.{ℕ, List, [], ◌∷◌, ◌++◌, codes}
use Rattle.ecp_requests.specs.declared.request.Request.{Request}
use Rattle.ecp_requests.specs.declared.request.Request.TheVariants.{Keys, Leave, NoKey, NotFound, BadMethod, BadHead, More}

abbrev pub crlf : List ℕ
crlf = 13 ∷ 10 ∷ []

-- a reply with this status and these further header lines
abbrev pub reply_with : List ℕ → List ℕ → List ℕ
reply_with status more =
    codes "HTTP/1.1 " ++ status ++ crlf ++ more ++ codes "Content-Length: 0" ++ crlf ++ codes "Connection: close" ++ crlf ++ crlf

-- none while more bytes are wanted
abbrev pub reply_text : Request → List ℕ
reply_text (Keys key press release) = reply_with (codes "200 OK") []
reply_text Leave = reply_with (codes "200 OK") []
reply_text NoKey = reply_with (codes "200 OK") []
reply_text NotFound = reply_with (codes "404 Not Found") []
reply_text BadMethod = reply_with (codes "405 Method Not Allowed") (codes "Allow: POST" ++ crlf)
reply_text BadHead = reply_with (codes "400 Bad Request") []
reply_text More = []
