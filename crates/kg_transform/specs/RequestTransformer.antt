-- Kong's plugin request-transformer (Kong Gateway manual, "Request Transformer"): the steps remove, rename,
-- replace, add, append, in this order, over the upstream headers and the query.
use Rattle.std.specs.Prelude.{List}
use Rattle.kg_text.specs.declared.pair.Pair.{Pair}
use Rattle.kg_row_types.specs.declared.config.RequestTransformer.{RequestTransformer}
use Rattle.kg_message.specs.declared.header.Header.{Header}
use Rattle.kg_context.specs.declared.context.ReqCtx.{ReqCtx}
use Rattle.kg_transform.specs.Edits.{fields_after, pairs_after}
use Rattle.kg_transform.specs.declared.step.Step.TheVariants.{Remove, Rename, Replace, Add, Append}

abbrev pub transformed_fields : RequestTransformer → List Header → List Header
transformed_fields config fields =
    let left = fields_after Remove config.remove.headers fields in
    let named = fields_after Rename config.rename.headers left in
    let valued = fields_after Replace config.replace.headers named in
    let completed = fields_after Add config.add.headers valued in
    fields_after Append config.append.headers completed

abbrev pub transformed_pairs : RequestTransformer → List Pair → List Pair
transformed_pairs config pairs =
    let left = pairs_after Remove config.remove.querystring pairs in
    let named = pairs_after Rename config.rename.querystring left in
    let valued = pairs_after Replace config.replace.querystring named in
    let completed = pairs_after Add config.add.querystring valued in
    pairs_after Append config.append.querystring completed

-- the request on its way with both changed
abbrev pub request_transformed : RequestTransformer → ReqCtx → ReqCtx
request_transformed config ctx = record ctx {
  headers = transformed_fields config ctx.headers;
  query = transformed_pairs config ctx.query;
}
