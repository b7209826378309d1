-- Kong's plugin response-transformer (Kong Gateway manual, "Response Transformer"): the steps remove, rename,
-- replace, add, append, in this order, over the headers of the reply.
use Rattle.std.specs.Prelude.{List}
use Rattle.kg_row_types.specs.declared.config.ResponseTransformer.{ResponseTransformer}
use Rattle.kg_message.specs.declared.header.Header.{Header}
use Rattle.kg_message.specs.declared.response.Response.{Response}
use Rattle.kg_transform.specs.Edits.{fields_after}
use Rattle.kg_transform.specs.declared.step.Step.TheVariants.{Remove, Rename, Replace, Add, Append}

abbrev pub reply_fields : ResponseTransformer → List Header → List Header
reply_fields config fields =
    let left = fields_after Remove config.remove fields in
    let named = fields_after Rename config.rename left in
    let valued = fields_after Replace config.replace named in
    let completed = fields_after Add config.add valued in
    fields_after Append config.append completed

-- the reply with its headers changed
abbrev pub response_transformed : ResponseTransformer → Response → Response
response_transformed config response = record response { headers = reply_fields config response.headers }
