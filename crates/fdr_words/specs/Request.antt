-- The form that a request stands for.
use Rattle.fdr_words.specs.Forms.{Form, check_table, stream_line, list_bits, encode_bytes}
use Rattle.fdr_words.specs.Forms.{decode_levels, format_image, record_line, recover_image, list_image, upgrade_image, salvage_image, exceed_image}
use Rattle.fdr_words.specs.Forms.{drill_image}
use Rattle.fdr_words.specs.declared.Request.{Request}
use Rattle.fdr_words.specs.declared.Request.TheVariants as request

-- the form that the program's request stands for
abbrev pub form_of_request : Request → Form
form_of_request (request.CheckTable table) = check_table table
form_of_request (request.StreamLine table) = stream_line table
form_of_request (request.ListBits table) = list_bits table
form_of_request request.Encode = encode_bytes
form_of_request request.Decode = decode_levels
form_of_request (request.FormatImage table image slots payload) = format_image table image slots payload
form_of_request (request.RecordLine table image) = record_line table image
form_of_request (request.RecoverImage image) = recover_image image
form_of_request (request.ListImage table image) = list_image table image
form_of_request (request.Upgrade image) = upgrade_image image
form_of_request (request.Salvage table image ring) = salvage_image table image ring
form_of_request (request.Exceed table image) = exceed_image table image
form_of_request (request.Drill table image seed frames) = drill_image table image seed frames
